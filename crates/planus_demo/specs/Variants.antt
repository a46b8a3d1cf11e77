use Rattle.std.specs.Prelude.{◌≡◌, ℕ, Ok, Err}
use Rattle.planus_write.specs.Placing.{Outcome}
use Rattle.planus_write.specs.declared.offset.Offset.{Offset}
use Rattle.planus_write.specs.declared.union_offset.UnionOffset.{UnionOffset}

-- the value was written, with the variant's tag, or the call failed
abbrev pub WritesVariant : {T K : Type 0} → ℕ → Outcome (Offset T) → Outcome (UnionOffset K)
WritesVariant {T} {K} tag writes old (Ok union) new = (offset : Offset T)
    × writes old (Ok offset) new × (union.tag ≡ tag)
    × (union.offset.distance ≡ offset.distance)
WritesVariant {T} {K} tag writes old (Err error) new = writes old (Err error) new
