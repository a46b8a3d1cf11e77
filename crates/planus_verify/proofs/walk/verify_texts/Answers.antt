use Rattle.std.proofs.Common.{◌≡◌, ◌*◌, Some, Err, sym, subst, rules}
use Rattle.planus_read.specs.Slices.{slice_bytes, slice_start}
use Rattle.planus_view.specs.VectorView.{view_of, count_of}
use Rattle.planus_verify.specs.Steps.{text_steps, place_faults}
use Rattle.planus_verify.specs.Walks.{NoTable, InOrder}
use Rattle.planus_verify.proofs.Loops.{no_vector, vector_is, items_begin, item_passes, item_stops, items_end, text_item}
use Rattle.planus_verify.proofs.walk.verify_texts.Goals as goal

pub returns-in-Err : goal.returns-in-Err
returns-in-Err c =
    no_vector NoTable (place_faults c.args.place)
    (λ i B begin. text_steps (place_faults c.args.place (Some i)) B) (slice_bytes c.args.buffer)
    (slice_start c.args.buffer) c.args.offset c.args.before c.in-Err.kind c.in-Err.ensures

pub loop-i-init : goal.loop-i-init
loop-i-init c =
    items_begin NoTable (count_of c.in-Ok.items)
    (λ i. text_steps (place_faults c.args.place (Some i)) (view_of c.in-Ok.items).bytes (i * 4))
    c.args.before

pub returns-in_err-left : goal.returns-in_err-left
returns-in_err-left c =
    let answer = c.from_residual.result in
    let found = c.in_err-left.field-0.0 in
    let same : answer ≡ Err found = search rules in
    let items = view_of c.in-Ok.items in
    let here = text_item c.args.place c.at.result c.loop-i.i _ items.bytes _ c.loop-i.left
    (Err found) c.at.ensures c.get_unchecked.ensures.bytes c.get_unchecked.ensures.offset
    c.in_err-left.ensures in
    vector_is NoTable (place_faults c.args.place)
    (λ i B begin. text_steps (place_faults c.args.place (Some i)) B) (slice_bytes c.args.buffer)
    (slice_start c.args.buffer) c.args.offset items c.args.before answer c.in-Ok.ensures
    (subst (InOrder NoTable _ c.args.before) (sym same)
    (item_stops NoTable items.count
    (λ i. text_steps (place_faults c.args.place (Some i)) items.bytes (i * 4)) c.loop-i.i
    c.args.before c.loop-i.left found (search rules) c.loop-i.invariant here))

pub loop-i-preserved : goal.loop-i-preserved
loop-i-preserved c =
    let items = view_of c.in-Ok.items in
    let next = c.in_ok-left.left in
    item_passes NoTable items.count
    (λ i. text_steps (place_faults c.args.place (Some i)) items.bytes (i * 4)) c.loop-i.i
    c.args.before c.loop-i.left next (search rules) c.loop-i.invariant
    (text_item c.args.place c.at.result c.loop-i.i _ items.bytes _ c.loop-i.left
    _ c.at.ensures c.get_unchecked.ensures.bytes c.get_unchecked.ensures.offset
    c.in_ok-left.ensures)

pub returns : goal.returns
returns c =
    let items = view_of c.in-Ok.items in
    vector_is NoTable (place_faults c.args.place)
    (λ i B begin. text_steps (place_faults c.args.place (Some i)) B) (slice_bytes c.args.buffer)
    (slice_start c.args.buffer) c.args.offset items c.args.before _ c.in-Ok.ensures
    (items_end NoTable items.count
    (λ i. text_steps (place_faults c.args.place (Some i)) items.bytes (i * 4)) c.loop-i.i
    c.args.before c.loop-i.left (search rules) c.loop-i.invariant)
