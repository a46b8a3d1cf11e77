-- What is made of a table `Port`, where so many tables may lie within each other.
use Rattle.std.specs.Prelude.{ℕ, zero, suc, codes, [], ◌∷◌}
use Rattle.planus_owned.specs.Printed.{Owning, record_of, too_deep, text, table}
use Rattle.owned_ships.specs.declared.port.Port.{Port}
use Rattle.owned_ships.specs.Ship.{ship_owned}
use Rattle.owned_ships.specs.declared.ship.Ship.{Ship}
use Rattle.owned_ships.specs.declared.ship.ShipRef.{ShipRef}

abbrev pub port_owned : ℕ → Owning Port
port_owned zero = too_deep
port_owned (suc depth) =
    record_of (codes "Port")
    (text 0 (codes "name") (λ port. port.name)
    ∷ table Ship (λ (view : ShipRef). view.0) (ship_owned depth) 1 (codes "flagship")
    (λ port. port.flagship) ∷ [])
