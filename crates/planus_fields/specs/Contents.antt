-- The contents of optional fields.
use Rattle.std.specs.Prelude.{ℕ, List, [], ◌∷◌, Bool, true, false, if◌then◌else◌, Option}
use Rattle.std.specs.Prelude.{Some, None, Ok, ⊤}
use Rattle.planus_read.specs.Values.{Field}
use Rattle.planus_write.specs.History.{History}
use Rattle.planus_write.specs.Placing.{Outcome}
use Rattle.planus_write.specs.State.{State, IsHistoryOf}
use Rattle.planus_write.specs.declared.union_offset.UnionOffset.{UnionOffset}
use Rattle.planus_write.specs.declared.union_vector_offset.UnionVectorOffset.{UnionVectorOffset}
use Rattle.planus_write.specs.Contents.{Content}
use Rattle.planus_write.specs.Contents.{FieldIs, Comes, UnionVectorHolds}
use Rattle.planus_write.specs.Contents.{UnionHolds, unions_hold}

-- both are left out, or the field holds this
abbrev pub HoldsIf : {A : Type 0} → History → Option Content → (A → Field) → Option A → Type 0
HoldsIf history None field None = ⊤
HoldsIf history (Some content) field (Some prepared) = FieldIs history content (field prepared)
HoldsIf history None field (Some prepared) = ⊥
HoldsIf history (Some content) field None = ⊥

-- A prepared value's field holds its content.
pub record PreparesOptional {X A : Type 0} (may : X → State → Type 0)
    (outcome : X → Outcome (Option A)) (content : X → Option Content) (field : A → Field)
    : Type 0 where
  pub comes :
      (x : X) (old : State) (prepared : Option A) (new : State) (history : History) → may x old
      → outcome x old (Ok prepared) new → IsHistoryOf old history
      → Comes history new (λ after. HoldsIf after (content x) field prepared)

-- A prepared union has its tag and its content.
pub record PreparesUnion {X T : Type 0} (may : X → State → Type 0)
    (outcome : X → Outcome (Option (UnionOffset T))) (content : X → Option (ℕ × Content))
    : Type 0 where
  pub comes :
      (x : X) (old : State) (prepared : Option (UnionOffset T)) (new : State) (history : History)
      → may x old → outcome x old (Ok prepared) new → IsHistoryOf old history
      → Comes history new (λ after. UnionHolds after (content x) prepared)

-- A prepared union vector's fields hold these.
pub record PreparesUnionVector {X T : Type 0} (may : X → State → Type 0)
    (outcome : X → Outcome (Option (UnionVectorOffset T)))
    (contents : X → Option (Content × Content)) : Type 0 where
  pub comes :
      (x : X) (old : State) (prepared : Option (UnionVectorOffset T)) (new : State)
      (history : History)
      → may x old → outcome x old (Ok prepared) new → IsHistoryOf old history
      → Comes history new (λ after. UnionVectorHolds after (contents x) prepared)

-- nothing where the value is the default
abbrev pub unless : {A : Type 0} → Bool → Option A → Option A
unless is_default content = if is_default then None else content

abbrev pub is_empty : {A : Type 0} → List A → Bool
is_empty [] = true
is_empty (x ∷ xs) = false

-- the two fields of a vector that is left out where it is empty
abbrev pub any_unions_hold : List (ℕ × Content) → Option (Content × Content)
any_unions_hold contents = unless (is_empty contents) (Some (unions_hold contents))

-- nothing for an absent field, else what the value holds
abbrev pub holds_if : {X : Type 0} → (X → Option Content) → Option X → Option Content
holds_if content None = None
holds_if content (Some x) = content x

-- the same for a union
abbrev pub union_if : {X : Type 0} → (X → Option (ℕ × Content)) → Option X → Option (ℕ × Content)
union_if content None = None
union_if content (Some x) = content x

-- the same for a union vector
abbrev pub union_vector_if : {X : Type 0} → (X → Option (Content × Content)) → Option X
    → Option (Content × Content)
union_vector_if contents None = None
union_vector_if contents (Some x) = contents x
