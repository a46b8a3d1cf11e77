use Rattle.std.proofs.Common.{ap, sym, ◌∙◌}
use Rattle.planus_resolve.specs.Uses.{use_of, use_fault}
use Rattle.planus_resolve.proofs.FaultLemmas.{ok_anyway}
use Rattle.planus_resolve.proofs.UseLemmas.{none_noted}
use Rattle.planus_resolve.proofs.waiting.read_use.Goals as goal

pub returns-in-Nothing-clause-noted : goal.returns-in-Nothing-clause-noted
returns-in-Nothing-clause-noted c =
    let u = use_of c.args.usage.now in
    none_noted _ _ c.requires (ap (use_fault u) (sym c.in-Ok.ensures ∙ c.in-Nothing.is))

pub returns-in-Wait-clause-noted : goal.returns-in-Wait-clause-noted
returns-in-Wait-clause-noted c =
    let u = use_of c.args.usage.now in
    ok_anyway c.wait.result _ (none_noted _ _ c.requires (ap (use_fault u) (sym c.in-Ok.ensures ∙ c.in-Wait.is)))
