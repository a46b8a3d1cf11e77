use Rattle.std.proofs.Common.{◌+◌, length, ap, subst, arith, length-drop}
use Rattle.std.proofs.lemmas.List.{drop_all}
use Rattle.core.specs.Mem.Slots.{slots_counts, slots_items}
use Rattle.planus_back.specs.BackBytes.{BackBytes}
use Rattle.planus_back.specs.inner.Blocks.{HoldsFrom}
use Rattle.planus_back.proofs.backvec.BackVec.clear.Goals as goal

pub invariant_of-self : goal.invariant_of-self
invariant_of-self c =
    subst (HoldsFrom c.keep_initialized.new.self) (omega arith) c.keep_initialized.ensures.holds

pub returns-clause-bytes : goal.returns-clause-bytes
returns-clause-bytes c =
    let places = c.keep_initialized.new.self.places in
    drop_all _ (slots_items places) (omega (arith, (slots_counts places).0))

pub returns-clause-room : goal.returns-clause-room
returns-clause-room c =
    let items = slots_items c.self.inside.block.places in
    omega (
      arith,
      ap (λ (b : BackBytes). length b.bytes + b.room) c.self.view_is,
      length-drop c.self.inside.start items,
      (slots_counts c.self.inside.block.places).0,
    )
