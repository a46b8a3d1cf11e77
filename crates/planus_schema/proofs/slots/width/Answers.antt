use Rattle.std.proofs.Common.{refl, sym, ◌∙◌}
use Rattle.planus_schema.proofs.slots.width.Goals as goal

pub returns-then-is_union : goal.returns-then-is_union
returns-then-is_union c = rw (sym c.is_union.ensures ∙ c.if-is_union.true) refl
