use Rattle.std.proofs.Common.{◌≡◌, drop}
use Rattle.planus_tie.specs.Ranks.{totals_from, totals_of}
use Rattle.planus_tie.proofs.ranks.totals_of.Given as goal

abbrev pub invariant-declared : goal.invariant-declared
invariant-declared l =
    totals_from l.totals.items (drop l.one-index l.declared) ≡ totals_of l.declared
