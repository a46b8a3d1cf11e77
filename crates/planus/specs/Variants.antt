-- Unions that are written together with their values.
use Rattle.std.specs.Prelude.{◌≡◌, ℕ, Ok, Err}
use Rattle.planus_write.specs.Placing.{Outcome}
use Rattle.planus_write.specs.declared.offset.Offset.{Offset}
use Rattle.planus_write.specs.declared.union_offset.UnionOffset.{UnionOffset}

-- The value is prepared, and the union refers to it with this tag, or there is an error.
abbrev pub WritesVariant : {K T : Type 0} → ℕ → Outcome (Offset K) → Outcome (UnionOffset T)
WritesVariant {K} tag prepare old (Ok union) new =
    (union.tag ≡ tag) × ((offset : Offset K) × prepare old (Ok offset) new
    × (union.offset.distance ≡ offset.distance))
WritesVariant tag prepare old (Err error) new = prepare old (Err error) new
