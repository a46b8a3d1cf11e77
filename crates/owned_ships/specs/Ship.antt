-- What is made of a table `Ship`, where so many tables may lie within each other.
use Rattle.std.specs.Prelude.{ℕ, zero, suc, codes, [], ◌∷◌, negsuc, true}
use Rattle.planus.specs.Printed.{of_bits, binary32, u16_shape, i16_shape, i32_shape}
use Rattle.planus.specs.Printed.{bool_shape, f32_shape}
use Rattle.planus_owned.specs.Printed.{Owning, record_of, too_deep, text, text_if, plain_or}
use Rattle.planus_owned.specs.Printed.{plain_if, table_if}
use Rattle.owned_ships.specs.Kind.{kind_shape}
use Rattle.owned_ships.specs.declared.kind.Kind.TheVariants as kind_value
use Rattle.owned_ships.specs.Person.{person_owned}
use Rattle.owned_ships.specs.declared.person.Person.{Person}
use Rattle.owned_ships.specs.declared.person.PersonRef.{PersonRef}
use Rattle.owned_ships.specs.Pos.{pos_shape}
use Rattle.owned_ships.specs.declared.ship.Ship.{Ship, out-Ship}
use Rattle.owned_ships.specs.declared.ship.ShipRef.{ShipRef}

abbrev pub ship_owned : ℕ → Owning Ship
ship_owned zero = too_deep
ship_owned (suc depth) =
    record_of (codes "Ship")
    (text 0 (codes "name") (λ ship. (out-Ship ship).name)
    ∷ plain_or u16_shape 100 1 (codes "hull") (λ ship. (out-Ship ship).hull)
    ∷ plain_or kind_shape kind_value.Bike 2 (codes "kind") (λ ship. (out-Ship ship).kind)
    ∷ plain_if pos_shape 3 (codes "home") (λ ship. (out-Ship ship).home)
    ∷ plain_or f32_shape (of_bits binary32 1069547520) 4 (codes "heat")
    (λ ship. (out-Ship ship).heat)
    ∷ plain_or i16_shape (negsuc 4) 5 (codes "depth") (λ ship. (out-Ship ship).depth)
    ∷ plain_or bool_shape true 6 (codes "open") (λ ship. (out-Ship ship).open)
    ∷ plain_if i32_shape 7 (codes "maybe") (λ ship. (out-Ship ship).maybe)
    ∷ text_if 8 (codes "note") (λ ship. (out-Ship ship).note)
    ∷ table_if Person (λ (view : PersonRef). view.0) (person_owned depth) 9 (codes "captain")
    (λ ship. (out-Ship ship).captain)
    ∷ table_if Ship (λ (view : ShipRef). view.0) (ship_owned depth) 10 (codes "mate")
    (λ ship. (out-Ship ship).mate) ∷ [])
