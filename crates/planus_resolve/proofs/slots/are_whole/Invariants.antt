use Rattle.std.proofs.Common.{◌≡◌, ◌<◌, ℕ, true, false, take, length, get_or}
use Rattle.std.specs.Prelude.{nat_eq, nat_lt}
use Rattle.std.specs.List.{list_any, list_all}
use Rattle.planus_schema.specs.Slots.{are_apart}
use Rattle.planus_resolve.proofs.slots.are_whole.Given as goal

abbrev pub invariant-slots : goal.invariant-slots
invariant-slots l = record {
  many : length l.taken.items ≡ length l.slots;
  marked : (k : ℕ) → k < length l.slots
      → get_or l.taken.items k false ≡ list_any (nat_eq k) (take l.slot-index l.slots);
  below : list_all (λ n. nat_lt n (length l.slots)) (take l.slot-index l.slots) ≡ true;
  apart : are_apart (take l.slot-index l.slots) ≡ true;
}
