use Rattle.std.proofs.Common.{map, ap, subst, sym, ◌∙◌}
use Rattle.std.specs.Prelude.{Some}
use Rattle.planus_resolve.specs.Names.{head_of, at_index}
use Rattle.planus_resolve.specs.inner.Read.{AreNoted}
use Rattle.planus_resolve.specs.Uses.{waiting_of, begin_faults, bound_fault}
use Rattle.planus_resolve.proofs.UseLemmas.{none_noted, both_noted, begins_choice, begins_record}
use Rattle.planus_resolve.proofs.waiting.read_begin.Goals as goal

pub returns-then-is_choice-clause-noted : goal.returns-then-is_choice-clause-noted
returns-then-is_choice-clause-noted c =
    let hs = map head_of c.args.heads.now in
    let s = waiting_of c.args.waiting.now in
    none_noted (begin_faults hs s c.args.word.now) c.args.faults.now.items c.requires
    (begins_choice hs s c.args.word.now (sym c.if-is_choice.ensures))

pub returns-clause-noted : goal.returns-clause-noted
returns-clause-noted c =
    let hs = map head_of c.args.heads.now in
    let s = waiting_of c.args.waiting.now in
    let n = s.begun in
    let single = subst (λ a. AreNoted (bound_fault n a) c.args.faults.now.items c.note_bound.new.faults.items)
    (c.at.ensures ∙ ap (λ xs. at_index xs c.ending-single.result) c.deref.ensures.value ∙ ap (at_index s.single) c.ending-single.ensures) c.in-Ok.ensures in
    let full = subst (λ a. AreNoted (bound_fault n a) c.note_bound.new.faults.items c.note_bound-2.new.faults.items)
    (c.at-2.ensures ∙ ap (λ xs. at_index xs (Some n)) c.deref-2.ensures.value) c.in-Ok-note_bound.ensures in
    subst (λ fs. AreNoted fs c.args.faults.now.items c.note_bound-2.new.faults.items)
    (sym (begins_record hs s c.args.word.now (sym c.if-is_choice.ensures)))
    (both_noted _ _ _ _ _ single full)
