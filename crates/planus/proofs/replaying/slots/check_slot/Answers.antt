use Rattle.std.proofs.Common.{◌≡◌, ℕ, ◌<◌, Bool, true, List, Some, None, ap, map, arith}
use Rattle.std.specs.Prelude.{nat_lt, ◌==◌, if◌then◌else◌}
use Rattle.std.specs.List.{list_any}
use Rattle.std.proofs.lemmas.Bool.Decides.{nat_tests}
use Rattle.planus.specs.Steps.{bare_field}
use Rattle.planus.specs.Slots.{slot_fault}
use Rattle.planus.specs.inner.Declaring.{slots_of}
use Rattle.planus.specs.declared.replaying.faults.Why.TheVariants.{SlotTooBig, SlotTwice}
use Rattle.planus.proofs.Declaring.{slot_is_used, slot_is_free}
use Rattle.planus.proofs.replaying.slots.check_slot.Goals as goal

slot_is_big : (slots : List ℕ) (slot : ℕ) → 255 < slot → slot_fault slots slot ≡ Some SlotTooBig
slot_is_big slots slot big =
    let test : nat_lt 255 slot ≡ true = grind (arith, nat_tests, big) in
    ap (λ (above : Bool). if above then Some SlotTooBig else if list_any (λ other. other == slot) slots then Some SlotTwice else None) test

pub returns-then-slot-gt255 : goal.returns-then-slot-gt255
returns-then-slot-gt255 c = slot_is_big (slots_of (map bare_field c.args.fields.now)) c.args.slot c.if-slot-gt255.true

pub returns-then-is_used : goal.returns-then-is_used
returns-then-is_used c = slot_is_used c.args.fields.now c.args.slot c.if-slot-gt255.false c.if-is_used.ensures

pub returns-else-is_used : goal.returns-else-is_used
returns-else-is_used c = slot_is_free c.args.fields.now c.args.slot c.if-slot-gt255.false c.if-is_used.ensures
