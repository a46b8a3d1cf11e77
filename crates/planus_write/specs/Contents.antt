-- What a field holds, as its caller would say it.
use Rattle.std.specs.Prelude.{◌≡◌, ℕ, List, [], ◌∷◌, Option}
use Rattle.std.specs.Prelude.{Some, None, Ok, ⊤}
use Rattle.planus_read.specs.Values.{Value, Field, Plain, plain, reference, tags}
use Rattle.planus_read.specs.Values.{values as values_field, reference_list, union_vector}
use Rattle.planus_write.specs.Kept.{IsKept}
use Rattle.planus_write.specs.Parts.{Named}
use Rattle.planus_write.specs.History.{History}
use Rattle.planus_write.specs.Placing.{Outcome}
use Rattle.planus_write.specs.State.{State, IsHistoryOf, Extends}
use Rattle.planus_write.specs.Unions.{union_reach}
use Rattle.planus_write.specs.declared.union_offset.UnionOffset.{UnionOffset}
use Rattle.planus_write.specs.declared.union_vector_offset.UnionVectorOffset.{UnionVectorOffset}

mutual
  -- A number or a bool, or a reference: to a value, to a vector of references, or to a value
  -- written before at this distance. A union vector has two fields, its tags' and its values'.
  pub data Content : Type 0 where
    item : Plain → Content
    value : Value → Content
    values : List Value → Content
    written : ℕ → Content
    union_tags : Unions → Content
    union_values : Unions → Content
    written_tags : ℕ → Content
    written_values : ℕ → Content

  -- Each union's tag, and what its reference holds.
  pub data Unions : Type 0 where
    no_unions : Unions
    union_and : ℕ → Content → Unions → Unions

abbrev pub as_unions : List (ℕ × Content) → Unions
as_unions [] = no_unions
as_unions (one ∷ others) = union_and one.0 one.1 (as_unions others)

abbrev pub named_at : ℕ → Named
named_at distance = record { distance = distance; tags = None }

abbrev pub AllKept : History → List Value → List ℕ → Type 0
AllKept history [] [] = ⊤
AllKept history (one ∷ others) (distance ∷ distances) =
    IsKept history one (named_at distance) × AllKept history others distances
AllKept history [] (distance ∷ distances) = ⊥
AllKept history (one ∷ others) [] = ⊥

abbrev pub named_at_both : (tags_at values_at : ℕ) → Named
named_at_both tags_at values_at = record { distance = values_at; tags = Some tags_at }

abbrev mutual
  -- The field holds this, and the value it refers to is stored. What is at an earlier distance is
  -- for the caller to know.
  pub FieldIs : History → Content → Field → Type 0
  FieldIs history (item content) field = field ≡ plain content
  FieldIs history (value content) field =
      (distance : ℕ) × (field ≡ reference distance) × IsKept history content (named_at distance)
  FieldIs history (values contents) field =
      (distance : ℕ) × (field ≡ reference distance)
      × ((distances : List ℕ) × IsKept history (reference_list distances) (named_at distance)
      × AllKept history contents distances)
  FieldIs history (written distance) field = field ≡ reference distance
  FieldIs history (union_tags contents) field =
      (tags_at values_at : ℕ) × (field ≡ tags tags_at)
      × ((unions : List (ℕ × ℕ))
      × IsKept history (union_vector unions) (named_at_both tags_at values_at)
      × UnionsAre history contents unions)
  FieldIs history (union_values contents) field =
      (tags_at values_at : ℕ) × (field ≡ values_field values_at)
      × ((unions : List (ℕ × ℕ))
      × IsKept history (union_vector unions) (named_at_both tags_at values_at)
      × UnionsAre history contents unions)
  FieldIs history (written_tags distance) field = field ≡ tags distance
  FieldIs history (written_values distance) field = field ≡ values_field distance

  pub UnionsAre : History → Unions → List (ℕ × ℕ) → Type 0
  UnionsAre history no_unions [] = ⊤
  UnionsAre history (union_and tag content others) (union ∷ unions) =
      (union.0 ≡ tag) × FieldIs history content (reference union.1)
      × UnionsAre history others unions
  UnionsAre history no_unions (union ∷ unions) = ⊥
  UnionsAre history (union_and tag content others) [] = ⊥

abbrev pub Comes : History → State → (History → Type 0) → Type 0
Comes history new Holds = (after : History) × IsHistoryOf new after × Extends history after
    × Holds after

-- Once a value is prepared, its field holds the value's content.
pub record PreparesContent {X A : Type 0} (may : X → State → Type 0) (outcome : X → Outcome A)
    (content : X → Content) (field : A → Field) : Type 0 where
  pub comes :
      (x : X) (old : State) (prepared : A) (new : State) (history : History) → may x old
      → outcome x old (Ok prepared) new → IsHistoryOf old history
      → Comes history new (λ after. FieldIs after (content x) (field prepared))

-- A written union holds this, or both are absent.
abbrev pub UnionHolds : {T : Type 0} → History → Option (ℕ × Content) → Option (UnionOffset T)
    → Type 0
UnionHolds history None None = ⊤
UnionHolds history (Some content) (Some union) =
    (union.tag ≡ content.0) × FieldIs history content.1 (reference (union_reach union))
UnionHolds history None (Some union) = ⊥
UnionHolds history (Some content) None = ⊥

-- The same for a union that is always present, such as an item.
pub record PreparesUnionItem {X T : Type 0} (may : X → State → Type 0)
    (outcome : X → Outcome (UnionOffset T)) (content : X → ℕ × Content) : Type 0 where
  pub comes :
      (x : X) (old : State) (prepared : UnionOffset T) (new : State) (history : History) → may x old
      → outcome x old (Ok prepared) new → IsHistoryOf old history
      → Comes history new (λ after. UnionHolds after (Some (content x)) (Some prepared))

-- A written union vector's two fields hold these, or both are absent.
abbrev pub UnionVectorHolds : {T : Type 0} → History → Option (Content × Content)
    → Option (UnionVectorOffset T) → Type 0
UnionVectorHolds history None None = ⊤
UnionVectorHolds history (Some contents) (Some vector) =
    FieldIs history contents.0 (tags vector.tags.distance)
    × FieldIs history contents.1 (values_field vector.values.distance)
UnionVectorHolds history None (Some vector) = ⊥
UnionVectorHolds history (Some contents) None = ⊥

abbrev pub unions_hold : List (ℕ × Content) → Content × Content
unions_hold contents = (union_tags (as_unions contents), union_values (as_unions contents))

abbrev pub written_union : {T : Type 0} → UnionOffset T → ℕ × Content
written_union union = (union.tag, written (union_reach union))
