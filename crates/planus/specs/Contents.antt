-- What the fields of a table hold.
use Rattle.std.specs.Prelude.{◌≡◌, ℕ, List, [], ◌∷◌, ◌++◌, Option}
use Rattle.std.specs.Prelude.{Some, None, Ok, ⊤}
use Rattle.std.specs.Int.{w8, to_le_bytes}
use Rattle.planus_read.specs.Values.{Value, Field}
use Rattle.planus_read.specs.Values.{table}
use Rattle.planus_write.specs.Kept.{IsKept}
use Rattle.planus_write.specs.Parts.{Named}
use Rattle.planus_write.specs.History.{History}
use Rattle.planus_write.specs.Placing.{Outcome}
use Rattle.planus_write.specs.State.{State, IsHistoryOf}
use Rattle.planus_write.specs.Contents.{Content, item}
use Rattle.planus_write.specs.Contents.{named_at}
use Rattle.planus_write.specs.Contents.{FieldIs, Comes}

abbrev pub content_in : ℕ → Option Content → List (ℕ × Content)
content_in slot None = []
content_in slot (Some content) = (slot, content) ∷ []

-- the slots that hold anything
abbrev pub there_of : List (ℕ × Option Content) → List (ℕ × Content)
there_of [] = []
there_of (content ∷ contents) = content_in content.0 content.1 ++ there_of contents

abbrev pub FieldsAre : History → List (ℕ × Content) → List (ℕ × Field) → Type 0
FieldsAre history [] [] = ⊤
FieldsAre history (content ∷ contents) (field ∷ fields) =
    (field.0 ≡ content.0) × FieldIs history content.1 field.1 × FieldsAre history contents fields
FieldsAre history [] (field ∷ fields) = ⊥
FieldsAre history (content ∷ contents) [] = ⊥

-- a table with exactly these contents is stored at the distance, with what it refers to
pub record TableIsKept (history : History) (contents : List (ℕ × Option Content)) (distance : ℕ)
    : Type 0 where
  pub fields : List (ℕ × Field)
  pub are : FieldsAre history (there_of contents) fields
  pub table_kept : IsKept history (table fields) (named_at distance)

abbrev pub StillKept : History → History → Type 0
StillKept before after =
    (one : Value) (named : Named) → IsKept before one named → IsKept after one named

-- a table with these contents is stored at the distance, and nothing is lost
abbrev pub WritesContents : List (ℕ × Option Content) → State → ℕ → State → Type 0
WritesContents contents old distance new =
    (history : History) → IsHistoryOf old history
    → Comes history new (λ after. StillKept history after × TableIsKept after contents distance)

-- the contents of a union vector's two fields
abbrev pub tags_content : Option (Content × Content) → Option Content
tags_content None = None
tags_content (Some contents) = Some contents.0

abbrev pub values_content : Option (Content × Content) → Option Content
values_content None = None
values_content (Some contents) = Some contents.1

-- the contents of a union's two fields
abbrev pub value_content : Option (ℕ × Content) → Option Content
value_content None = None
value_content (Some content) = Some content.1

abbrev pub tag_content : Option (ℕ × Content) → Option Content
tag_content None = None
tag_content (Some content) =
    Some (item (record { bytes = to_le_bytes w8 content.0; alignment = 1 }))

-- the same after prepared fields, whose contents come first
abbrev pub WritesRest :
    (there last : List (ℕ × Field)) (contents last_contents : List (ℕ × Option Content)) → State → ℕ
    → State → Type 0
WritesRest there last contents last_contents old distance new =
    (history : History) (before last_before : List (ℕ × Option Content)) → IsHistoryOf old history
    → FieldsAre history (there_of before) there → FieldsAre history (there_of last_before) last
    → Comes history new (λ after. StillKept history after
    × TableIsKept after ((before ++ contents) ++ (last_before ++ last_contents)) distance)

-- Prepared fields hold these contents.
pub record PreparesContents {X A : Type 0} (may : X → State → Type 0) (outcome : X → Outcome A)
    (contents : X → List (ℕ × Option Content)) (there : A → List (ℕ × Field)) : Type 0 where
  pub comes :
      (x : X) (old : State) (prepared : A) (new : State) (history : History) → may x old
      → outcome x old (Ok prepared) new → IsHistoryOf old history
      → Comes history new (λ after. FieldsAre after (there_of (contents x)) (there prepared))
