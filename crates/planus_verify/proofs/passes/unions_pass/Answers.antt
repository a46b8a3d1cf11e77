use Rattle.std.proofs.Common.{◌*◌, Some, Ok, rules, slice_index}
use Rattle.planus_read.specs.Places.{place_bytes, place_start, place_offset, tagged_place}
use Rattle.planus_view.specs.UnionVectorView.{view_of as unions_of}
use Rattle.planus_verify.specs.Schemas.{variant_in}
use Rattle.planus_verify.specs.Steps.{variant_steps}
use Rattle.planus_verify.specs.Walks.{Walks, InOrder}
use Rattle.planus_verify.proofs.Loops.{items_begin, item_passes, items_end}
use Rattle.planus_verify.specs.Passes.{member_steps_of}
use Rattle.planus_verify.proofs.Tables.{place_is}
use Rattle.planus_verify.proofs.passes.unions_pass.Goals as goal

pub loop-i-init : goal.loop-i-init
loop-i-init g c = λ at.
    let items = unions_of c.args.items in
    items_begin (Walks g.U.UnionKind.schema c.args.depth) items.count
    (member_steps_of g.U.UnionKind.schema.variants at g.U.UnionKind.union items) c.args.before

pub loop-i-preserved : goal.loop-i-preserved
loop-i-preserved g c = λ at.
    let W = Walks g.U.UnionKind.schema c.args.depth in
    let items = unions_of c.args.items in
    let one = c.in-Ok.ensures in
    let variant = variant_in g.U.UnionKind.schema.variants g.U.UnionKind.union
    (slice_index items.tags c.loop-i.i) in
    item_passes W items.count
    (member_steps_of g.U.UnionKind.schema.variants at g.U.UnionKind.union items) c.loop-i.i
    c.args.before c.loop-i.left c.in_ok-left.left (search rules) (c.loop-i.invariant at)
    (place_is (λ S start f. InOrder W (variant_steps (at (Some c.loop-i.i)) variant S start f)
    c.loop-i.left (Ok c.in_ok-left.left)) (place_bytes (tagged_place c.in-Ok.tagged))
    items.references (place_start (tagged_place c.in-Ok.tagged)) items.start
    (place_offset (tagged_place c.in-Ok.tagged)) (c.loop-i.i * 4) one.place_is.bytes
    one.place_is.begin one.place_is.offset
    (search rules))

pub returns : goal.returns
returns g c = λ at.
    let items = unions_of c.args.items in
    items_end (Walks g.U.UnionKind.schema c.args.depth) items.count
    (member_steps_of g.U.UnionKind.schema.variants at g.U.UnionKind.union items) c.loop-i.i
    c.args.before c.loop-i.left (search rules) (c.loop-i.invariant at)
