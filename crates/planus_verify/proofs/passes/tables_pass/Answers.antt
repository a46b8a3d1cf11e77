use Rattle.std.proofs.Common.{◌*◌, Some, Ok, rules}
use Rattle.planus_read.specs.Slices.{slice_bytes, slice_start}
use Rattle.planus_view.specs.VectorView.{view_of}
use Rattle.planus_verify.specs.Steps.{reference_steps}
use Rattle.planus_verify.specs.Walks.{Walks, InOrder}
use Rattle.planus_verify.proofs.Loops.{vector_is, items_begin, item_passes, items_end}
use Rattle.planus_verify.proofs.Tables.{place_is}
use Rattle.planus_verify.proofs.passes.tables_pass.Goals as goal

pub loop-i-init : goal.loop-i-init
loop-i-init g c = λ at.
    let items = view_of c.in-Ok.items in
    items_begin (Walks g.L.VerifiedKind.schema c.args.depth) items.count
    (λ i. reference_steps (at (Some i)) g.L.VerifiedKind.index items.bytes items.start (i * 4))
    c.args.before

pub loop-i-preserved : goal.loop-i-preserved
loop-i-preserved g c = λ at.
    let W = Walks g.L.VerifiedKind.schema c.args.depth in
    let items = view_of c.in-Ok.items in
    item_passes W items.count
    (λ i. reference_steps (at (Some i)) g.L.VerifiedKind.index items.bytes items.start (i * 4))
    c.loop-i.i c.args.before c.loop-i.left c.in_ok-left.left (search rules) (c.loop-i.invariant at)
    (place_is (λ S start f. InOrder W (reference_steps (at (Some c.loop-i.i))
    g.L.VerifiedKind.index S start f) c.loop-i.left (Ok c.in_ok-left.left)) _ _ _ _ _ _
    c.get_unchecked.ensures.bytes c.get_unchecked.ensures.begin c.get_unchecked.ensures.offset
    (c.in_ok-left.ensures (at (Some c.loop-i.i))))

pub returns : goal.returns
returns g c = λ at.
    let items = view_of c.in-Ok.items in
    let W = Walks g.L.VerifiedKind.schema c.args.depth in
    vector_is W at (λ i. reference_steps (at (Some i)) g.L.VerifiedKind.index)
    (slice_bytes c.args.buffer) (slice_start c.args.buffer) c.args.offset items c.args.before
    (Ok c.loop-i.left) c.in-Ok.ensures
    (items_end W items.count
    (λ i. reference_steps (at (Some i)) g.L.VerifiedKind.index items.bytes items.start (i * 4))
    c.loop-i.i c.args.before c.loop-i.left (search rules) (c.loop-i.invariant at))
