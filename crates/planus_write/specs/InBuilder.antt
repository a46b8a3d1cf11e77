use Rattle.std.specs.Prelude.{◌≤◌, List, length}
use Rattle.std.specs.List.{AllByRecursion}
use Rattle.planus_write.specs.State.{State, Grows}
use Rattle.planus_write.specs.declared.offset.Offset.{Offset}
use Rattle.planus_write.specs.declared.union_offset.UnionOffset.{UnionOffset}

-- it may be referred to: its distance is at most the builder's length
abbrev pub IsIn : {T : Type 0} → State → Offset T → Type 0
IsIn builder offset = offset.distance ≤ length builder.bytes

-- so are all of these
abbrev pub AllIn : {T : Type 0} → State → List (Offset T) → Type 0
AllIn builder offsets = AllByRecursion (λ offset. IsIn builder offset) offsets

-- and the values of these unions
abbrev pub AllUnionsIn : {T : Type 0} → State → List (UnionOffset T) → Type 0
AllUnionsIn builder unions = AllByRecursion (λ union. IsIn builder union.offset) unions

-- What is in a builder still is when it has grown.
abbrev pub StaysIn : Type 0 → Type 0
StaysIn T = (offset : Offset T) (old new : State) → Grows old new → IsIn old offset
    → IsIn new offset

abbrev pub AllStayIn : Type 0 → Type 0
AllStayIn T =
    (offsets : List (Offset T)) (old new : State) → Grows old new → AllIn old offsets
    → AllIn new offsets

abbrev pub AllUnionsStayIn : Type 0 → Type 0
AllUnionsStayIn T =
    (unions : List (UnionOffset T)) (old new : State) → Grows old new → AllUnionsIn old unions
    → AllUnionsIn new unions
