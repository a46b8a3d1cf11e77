use Rattle.std.proofs.Common.{◌+◌, ◌*◌}
use Rattle.owned_ships.proofs.ship.+ship.Given as goal

abbrev pub decreases-ShipRef::to_record : goal.decreases-ShipRef::to_record
decreases-ShipRef::to_record l = 3 * l.depth

abbrev pub decreases-ShipRef::own_mate : goal.decreases-ShipRef::own_mate
decreases-ShipRef::own_mate l = 3 * l.below + 2

abbrev pub decreases-ShipRef::own_mate-own_table_if : goal.decreases-ShipRef::own_mate-own_table_if
decreases-ShipRef::own_mate-own_table_if l = 3 * l.below + 1
