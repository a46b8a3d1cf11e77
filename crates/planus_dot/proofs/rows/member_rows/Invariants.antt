use Rattle.std.proofs.Common.{◌≡◌, map, take}
use Rattle.planus_dot.specs.Rows.{row_view, member_row}
use Rattle.planus_dot.proofs.rows.member_rows.Given as goal

abbrev pub invariant-members : goal.invariant-members
invariant-members l = map row_view l.rows.items ≡ map member_row (take l.member-index l.members)
