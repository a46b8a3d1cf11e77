use Rattle.std.proofs.Common.{◌≡◌, drop}
use Rattle.planus_tie.specs.Ties.{have_groups}
use Rattle.planus_tie.proofs.tie.have_groups.Given as goal

abbrev pub invariant-loop-entry : goal.invariant-loop-entry
invariant-loop-entry l =
    have_groups l.naming l.text l.table (drop l.entry-index l.entries) l.rest
    ≡ have_groups l.naming l.text l.table l.entries l.order
