use Rattle.std.proofs.Common.{◌+◌, ◌≤◌, ◌≡◌, ℕ, List, arith, length, replicate, take, ◌∙◌, subst, ap, false}
use Rattle.std.proofs.lemmas.List.{take-replicate, length-replicate}
use Rattle.core.specs.Mem.Slots.{slots_items, slots_filled}
use Rattle.core.specs.Mem.Slots.Ownership.{Filled, SameOutside}
use Rattle.planus_back.proofs.Blocks.{zeros_more, more_filled, others_same}
use Rattle.planus_back.proofs.block.zero.Goals as goal

pub loop-i-preserved : goal.loop-i-preserved
loop-i-preserved c =
    let then = c.args.places.now in let now = c.loop-i.places in let new = c.copy_in.new.self in let at = c.args.at in let i = c.loop-i.i in let n = c.min-count.result in
    let kept = c.loop-i.invariant in let put = c.copy_in.ensures in
    let least : n ≤ 4096 = omega (arith, c.min-count.ensures) in let left : i + n ≤ c.args.n = omega (arith, c.min-count.ensures, c.loop-i-test.true) in
    let src : List ℕ = take n (replicate 4096 0) in
    let zeros : src ≡ replicate n 0 = take-replicate n 4096 0 least in
    let count : length src ≡ n = ap length zeros ∙ length-replicate {A = ℕ} n 0 in
    let next : at + i + length src ≡ at + (i + n) = omega (arith, count) in
    let more : Filled (slots_filled new) (at + i) (at + (i + n)) = subst (λ (k : ℕ). Filled (slots_filled new) (at + i) k) next put.filled.0 in
    let same : SameOutside false (slots_filled now) (slots_filled new) (at + i) (at + (i + n)) = subst (λ (k : ℕ). SameOutside false (slots_filled now) (slots_filled new) (at + i) k) next put.filled.1 in (
      record {
        start = put.places.start ∙ kept.0.start;
        count = put.places.count ∙ kept.0.count;
      },
      put.items ∙ zeros_more (slots_items then) (slots_items now) src at i n (omega (arith, c.requires, then.ok.0, left)) kept.1 zeros,
      more_filled (slots_filled now) (slots_filled new) at (at + i) (at + (i + n)) kept.2 more same,
      others_same (slots_filled then) (slots_filled now) (slots_filled new) at (at + i) (at + (i + n)) (omega arith) (omega arith) kept.3 same,
      left,
    )
