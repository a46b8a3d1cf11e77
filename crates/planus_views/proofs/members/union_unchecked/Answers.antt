use Rattle.std.proofs.Common.{sym, ◌∙◌, inl, inr}
use Rattle.planus_views.proofs.UnionFacts.{absent}
use Rattle.planus_views.proofs.members.union_unchecked.Goals as goal

pub returns-then-tag_offset-eq0-clause-none : goal.returns-then-tag_offset-eq0-clause-none
returns-then-tag_offset-eq0-clause-none c =
    absent c.args.table.now c.args.slot c.requires
    (λ tag byte. inr (inl (sym c.slot_offset-tag_offset.ensures.value ∙ c.if-tag_offset-eq0.true)))
