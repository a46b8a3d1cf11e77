use Rattle.std.proofs.Common.{◌≡◌, ◌*◌, Some, Ok, refl, rules, true, inl}
use Rattle.planus_read.specs.Slices.{slice_bytes, slice_start}
use Rattle.planus_view.specs.VectorView.{view_of, count_of}
use Rattle.planus_verify.specs.Steps.{text_steps}
use Rattle.planus_verify.specs.Walks.{NoTable}
use Rattle.planus_verify.proofs.Loops.{vector_is, items_begin, item_passes, items_end}
use Rattle.planus_verify.proofs.passes.texts_pass.Goals as goal

pub loop-i-init : goal.loop-i-init
loop-i-init c = λ at left.
    items_begin NoTable (count_of c.in-Ok.items)
    (λ i. text_steps (at (Some i)) (view_of c.in-Ok.items).bytes (i * 4)) left

pub loop-i-preserved : goal.loop-i-preserved
loop-i-preserved c = λ at left.
    let items = view_of c.in-Ok.items in
    let good : c.get_unchecked.result.passes ≡ true = search rules in
    item_passes NoTable items.count (λ i. text_steps (at (Some i)) items.bytes (i * 4)) c.loop-i.i
    left left left (search rules) (c.loop-i.invariant at left)
    (inl (left, (c.get_unchecked.ensures good, refl), refl))

pub returns : goal.returns
returns c = λ is at left.
    let items = view_of c.in-Ok.items in
    vector_is NoTable at (λ i B begin. text_steps (at (Some i)) B) (slice_bytes c.args.buffer)
    (slice_start c.args.buffer) c.args.offset items left (Ok left) c.in-Ok.ensures
    (items_end NoTable items.count (λ i. text_steps (at (Some i)) items.bytes (i * 4)) c.loop-i.i
    left left (search rules) (c.loop-i.invariant at left))
