use Rattle.std.proofs.Common.{◌≡◌, ◌<◌, false, true, length, take, get_or, arith, sym, ◌∙◌}
use Rattle.std.specs.Prelude.{nat_eq}
use Rattle.std.specs.List.{list_any}
use Rattle.std.proofs.lemmas.List.{length-set}
use Rattle.std.proofs.lemmas.Grind.{common_steps}
use Rattle.planus_resolve.proofs.SlotLemmas.{twice, beyond, more_apart, marked_next, more_below}
use Rattle.planus_resolve.proofs.slots.are_whole.Goals as goal
use Rattle.planus_resolve.proofs.slots.are_whole.Goals.{then-slot-len-via-then-slot-len, then-slot-len-via-else-slot-len+then-index}

pub returns-then-slot-len : goal.returns-then-slot-len
returns-then-slot-len c = elim c.then-slot-len.branch [
  | then-slot-len-via-then-slot-len w ↦ sym (beyond c.args.slots.now c.slots.slot-index (omega arith) (omega (arith, c.slots.invariant.many)))
  | then-slot-len-via-else-slot-len+then-index w ↦
      let n = get_or c.args.slots.now c.slots.slot-index 0 in
      let here : n < length c.args.slots.now = omega (arith, c.slots.invariant.many) in
      let e : list_any (nat_eq n) (take c.slots.slot-index c.args.slots.now) ≡ true = sym (c.slots.invariant.marked n here) ∙ grind (arith, common_steps) in
      sym (twice c.args.slots.now c.slots.slot-index (omega arith) e)
]

pub slots-preserved : goal.slots-preserved
slots-preserved c =
    let i = c.slots.invariant in
    let n = get_or c.args.slots.now c.slots.slot-index 0 in
    let here : n < length c.args.slots.now = omega (arith, c.slots.invariant.many) in
    let new : list_any (nat_eq n) (take c.slots.slot-index c.args.slots.now) ≡ false = sym (i.marked n here) ∙ grind (arith, common_steps) in
    record {
      many = length-set c.slots.taken.items n true ∙ i.many;
      marked = λ k lt. marked_next c.slots.taken.items c.args.slots.now c.slots.slot-index k (omega arith) i.many here lt (i.marked k lt);
      below = more_below c.args.slots.now c.slots.slot-index (omega arith) here i.below;
      apart = more_apart c.args.slots.now c.slots.slot-index (omega arith) new i.apart;
    }
