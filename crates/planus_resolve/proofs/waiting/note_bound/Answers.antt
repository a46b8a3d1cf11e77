use Rattle.planus_resolve.specs.Uses.{bound_fault}
use Rattle.planus_resolve.proofs.UseLemmas.{none_noted, bound_same, bound_none}
use Rattle.planus_resolve.proofs.waiting.note_bound.Goals as goal

pub returns-in_default : goal.returns-in_default
returns-in_default c =
    none_noted (bound_fault c.args.index c.args.awaited) c.args.faults.now.items c.requires
    (bound_same c.args.index c.args.awaited c.in-Some.awaited c.in-Some.is c.if-awaited-index.false)

pub returns-in_default-2 : goal.returns-in_default-2
returns-in_default-2 c =
    none_noted (bound_fault c.args.index c.args.awaited) c.args.faults.now.items c.requires
    (bound_none c.args.index c.args.awaited c.in_default.is)
