use Rattle.std.proofs.Common.{refl, sym, ◌∙◌}
use Rattle.std.proofs.lemmas.List.{nil_from_length}
use borrow.Author.Tests.{eqb-true}
use Rattle.planus_fields.proofs.impls.slice.RefSliceWriteAsDefaultOffsetListUnit.prepare.Goals as goal

pub returns-then-is_empty : goal.returns-then-is_empty
returns-then-is_empty g c = (nil_from_length c.args.self.now.now (eqb-true _ _ (sym c.is_empty.ensures ∙ c.if-is_empty.true)), refl)
