use Rattle.std.proofs.Common.{◌∙◌, ◌*◌, ◌<◌, arith, sym, subst}
use Rattle.planus_read.specs.Places.{place_bytes}
use Rattle.planus_read.specs.Slices.{slice_bytes, slice_start}
use Rattle.planus_view.specs.VectorView.{view_of}
use Rattle.planus_verify.specs.Soughts.{ItemFails}
use Rattle.planus_verify.proofs.FailingItems.{first_fails, none_fails, none_so_far}
use Rattle.planus_verify.proofs.FailingItems.{begins_elsewhere}
use Rattle.planus_verify.proofs.ends.first_failing.Goals as goal

pub loop-i-init : goal.loop-i-init
loop-i-init c = λ j below fails. omega (arith, below)

pub returns-then-offset_from_start-begin-clause-none : goal.returns-then-offset_from_start-begin-clause-none
returns-then-offset_from_start-begin-clause-none c =
    begins_elsewhere c.args.begin c.args.kind (slice_bytes c.args.buffer)
    (slice_start c.args.buffer) c.args.offset (view_of c.in-Ok.items) c.in-Ok.ensures
    c.offset_from_start.result (c.offset_from_start.ensures ∙ c.items.ensures.start)
    c.if-offset_from_start-begin.true

pub returns-then-item_fails-clause-some : goal.returns-then-item_fails-clause-some
returns-then-item_fails-clause-some c =
    let items = view_of c.in-Ok.items in
    first_fails c.args.begin c.args.kind (slice_bytes c.args.buffer) (slice_start c.args.buffer)
    c.args.offset items c.in-Ok.ensures c.offset_from_start.result c.loop-i.i
    (c.offset_from_start.ensures ∙ c.items.ensures.start) c.if-offset_from_start-begin.false (
      subst (λ n. c.loop-i.i < n) c.len-i-end.ensures c.loop-i-test.true,
      subst (λ l. ItemFails c.args.kind l (c.loop-i.i * 4)) c.get_unchecked.ensures.bytes
          (subst (ItemFails c.args.kind (place_bytes c.get_unchecked.result))
          c.get_unchecked.ensures.offset
          (c.item_fails.ensures.fails c.if-item_fails.true)),
      c.loop-i.invariant,
    )

pub loop-i-preserved : goal.loop-i-preserved
loop-i-preserved c =
    let items = view_of c.in-Ok.items in
    none_so_far c.args.kind items.bytes c.loop-i.i c.loop-i.invariant
    (λ fails. c.item_fails.ensures.reads c.if-item_fails.false
    (subst (ItemFails c.args.kind (place_bytes c.get_unchecked.result))
    (sym c.get_unchecked.ensures.offset)
    (subst (λ l. ItemFails c.args.kind l (c.loop-i.i * 4)) (sym c.get_unchecked.ensures.bytes)
    fails)))

pub returns-clause-none : goal.returns-clause-none
returns-clause-none c =
    none_fails c.args.begin c.args.kind (slice_bytes c.args.buffer) (slice_start c.args.buffer)
    c.args.offset (view_of c.in-Ok.items) c.in-Ok.ensures
    (λ j less. c.loop-i.invariant j
    (let past = c.loop-i-test.false in let all = c.len-i-end.ensures in
    omega (arith, less, past, all)))
