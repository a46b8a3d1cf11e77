use Rattle.std.specs.Prelude.{◌≡◌, ℕ, max, List, [], map, Result, Ok, Err}
use Rattle.planus_write.specs.Parts.{tags_entries, union_entries, second_of, last_of}
use Rattle.planus_write.specs.State.{State}
use Rattle.planus_write.specs.Placing.{Outcome, then_does}
use Rattle.planus_write.specs.Preparing.{PreparesItems, WritesEntries, AsOffset, AnswersLast}
use Rattle.planus_write.specs.declared.errors.BuildError.{BuildError}
use Rattle.planus_write.specs.declared.offset.Offset.{Offset}
use Rattle.planus_write.specs.declared.unions.PreparedUnions.{PreparedUnions}
use Rattle.planus_write.specs.declared.union_offset.UnionOffset.{UnionOffset}
use Rattle.planus_write.specs.declared.union_vector_offset.UnionVectorOffset.{UnionVectorOffset}

-- the greatest distance to which a union refers
abbrev pub union_reach : {T : Type 0} → UnionOffset T → ℕ
union_reach union = union.offset.distance

-- the greatest distance of a union vector's tags and references
abbrev pub union_vector_reach : {T : Type 0} → UnionVectorOffset T → ℕ
union_vector_reach vector = max vector.tags.distance vector.values.distance

-- a union as an item: its tag, and the distance to which it refers
abbrev pub item_of : {T : Type 0} → UnionOffset T → ℕ × ℕ
item_of union = (union.tag, union.offset.distance)

-- the distances of the references and of the tags are returned as offsets
abbrev pub AsUnionVector : {T : Type 0} → Outcome (List ℕ) → Outcome (UnionVectorOffset T)
AsUnionVector {T} writes old (Ok vector) new = (got : List ℕ) × writes old (Ok got) new
    × (vector.values.distance ≡ second_of got) × (vector.tags.distance ≡ last_of got)
AsUnionVector {T} writes old (Err error) new = writes old (Err error) new

-- Unions were prepared in order, with these tags and references, or one failed.
abbrev pub PreparesUnions : {X T : Type 0} → (X → Outcome (UnionOffset T)) → List X → State
    → Result PreparedUnions BuildError → State → Type 0
PreparesUnions {X} {T} prepare xs old (Ok unions) new = (all : List (UnionOffset T))
    × PreparesItems prepare xs old (Ok all) new
    × (unions.tags.items ≡ map (λ union. union.tag) all)
    × (unions.values.items ≡ map (λ union. union.offset) all)
PreparesUnions {X} {T} prepare xs old (Err error) new = PreparesItems prepare xs old (Err error) new

-- the tags of a union vector were written, or the call failed
abbrev pub WritesTags : {T : Type 0} → List ℕ → Outcome (Offset T)
WritesTags {T} tags old answer new =
    AsOffset (AnswersLast (WritesEntries (tags_entries tags) [])) old answer new

-- A union vector was written, or the call failed: its unions are prepared, and then its entries
-- written.
abbrev pub WritesUnionVector : {X T : Type 0} → (X → Outcome (UnionOffset T)) → List X
    → Outcome (UnionVectorOffset T)
WritesUnionVector {X} {T} prepare xs old answer new =
    AsUnionVector
    (then_does (PreparesItems prepare xs)
    (λ unions. WritesEntries (union_entries (map item_of unions)) []))
    old answer new
