use Rattle.std.proofs.Common.{◌≡◌, drop}
use Rattle.planus_tie.specs.Ranks.{are_total}
use Rattle.planus_tie.proofs.ranks.are_total.Given as goal

abbrev pub invariant-fields : goal.invariant-fields
invariant-fields l =
    are_total l.totals (drop l.field-index l.fields) ≡ are_total l.totals l.fields
