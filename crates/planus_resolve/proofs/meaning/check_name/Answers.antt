use Rattle.std.proofs.Common.{map, refl, ap, sym, ◌∙◌}
use Rattle.planus_resolve.specs.declared.fault.FaultKind.TheVariants as fault
use Rattle.planus_resolve.specs.Names.{head_of, index_of}
use Rattle.planus_resolve.proofs.FaultLemmas.{adds_nothing, first_of_name}
use Rattle.planus_resolve.proofs.meaning.check_name.Goals as goal

pub returns-then-is_first-clause-adds : goal.returns-then-is_first-clause-adds
returns-then-is_first-clause-adds c =
    let h = head_of c.args.head.now in
    adds_nothing c.args.faults.now.items _ c.requires (first_of_name h.file _ c.args.index fault.NameTaken _
    (ap (index_of (map head_of c.args.heads.now)) (sym c.deref.ensures.value) ∙ sym c.index_of.ensures ∙ c.if-is_first.ensures.0 refl))
