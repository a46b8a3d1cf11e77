-- Tables that can't be declared, each by one condition, beside one that can.
use Rattle.std.proofs.Common.{◌≡◌, ℕ, [], ◌∷◌, true, false, refl}
use Rattle.planus_write.specs.Tables.{Declared}
use Rattle.planus.specs.TableRules.{are_neighbours, can_hold}

abbrev entry : ℕ → ℕ → Declared
entry slot size = record { slot = slot; size = size; alignment = size }

can_be_declared : can_hold 10 (entry 0 4 ∷ entry 2 4 ∷ entry 1 2 ∷ []) ≡ true
can_be_declared = refl

vtable_too_short : can_hold 8 (entry 0 4 ∷ entry 2 4 ∷ entry 1 2 ∷ []) ≡ false
vtable_too_short = refl

vtable_without_its_sizes : can_hold 2 [] ≡ false
vtable_without_its_sizes = refl

vtable_too_long : can_hold 65536 [] ≡ false
vtable_too_long = refl

slot_used_twice : can_hold 10 (entry 0 4 ∷ entry 0 4 ∷ entry 1 2 ∷ []) ≡ false
slot_used_twice = refl

small_field_first : can_hold 10 (entry 1 2 ∷ entry 0 4 ∷ entry 2 4 ∷ []) ≡ false
small_field_first = refl

object_too_large : can_hold 6 (record { slot = 0; size = 65536; alignment = 1 } ∷ []) ≡ false
object_too_large = refl

unions_have_neighbours : are_neighbours ((0, 1) ∷ (4, 5) ∷ []) ≡ true
unions_have_neighbours = refl

union_with_a_gap : are_neighbours ((0, 2) ∷ []) ≡ false
union_with_a_gap = refl

union_behind_its_value : are_neighbours ((1, 0) ∷ []) ≡ false
union_behind_its_value = refl
