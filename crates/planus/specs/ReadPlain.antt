-- Fields and items of a fixed layout, read back.
use Rattle.std.specs.Prelude.{◌≡◌, ℕ, ◌*◌, List, map, Bool, Option, None, Result, Ok}
use Rattle.std.specs.Prelude.{MatchOption, ⊤, slice_get, Some, IsTrue}
use Rattle.planus_read.specs.declared.located.Error.{Error}
use Rattle.planus_read.specs.declared.plain.Plain.{Ghosts as PlainGhosts}
use Rattle.planus_read.specs.declared.table_reader.Table.{Table}
use Rattle.planus_read.specs.Clauses.{Answer}
use Rattle.planus_read.specs.Converted.{Converted}
use Rattle.planus_read.specs.Items.{item_method, plain_name}
use Rattle.planus_read.specs.Located.{Located, OrDefault}
use Rattle.planus_read.specs.Plain.{Shape, plain_reading}
use Rattle.planus_read.specs.Tables.{Reads, FieldAnswer, table_start}
use Rattle.planus_view.specs.Indexes.{GetsItem}
use Rattle.planus_view.specs.VectorView.{count_of, view_of}
use Rattle.planus_view.specs.declared.vector.SliceView.{SliceView}
use Rattle.planus_view.specs.declared.vector_of.VectorOf.{VectorOf}
use Rattle.planus_write.specs.Contents.{Content, item}
use Rattle.planus_fields.specs.Contents.{holds_if, unless}
use Rattle.planus.specs.Holds.{holds_plain}
use Rattle.planus.specs.ReadBack.{ContentsReadBack, SlotHolds}
use Rattle.planus.specs.ReadVectors.{ArePlainItems}

module _ {T : Type 0} {size alignment : ℕ} (shape : Shape T size alignment) where
  abbrev pub reads_plain : Reads T
  reads_plain S start f r = Answer (plain_reading shape S f) r

  abbrev pub plain_content : T → Content
  plain_content x = item (record { bytes = shape.encoded x; alignment = alignment })

  abbrev pub PlainReadBack : Type 0
  PlainReadBack =
      ContentsReadBack reads_plain (λ B x. shape.fits x) plain_content (λ B x found. found ≡ x)

  -- the result for an optional field; the names are those of its errors
  pub record IsPlainField
      (table : Table) (slot : ℕ) (type_ method : List ℕ) (r : Result (Option T) Error)
      : Type 0 where
    pub answer : Located (FieldAnswer reads_plain table slot) type_ method (table_start table) r
    pub read_back :
        (B : List ℕ) (x : Option T) → SlotHolds B table slot (holds_if (holds_plain shape) x)
        → MatchOption x ⊤ shape.fits → r ≡ Ok x

  -- the same for a field with a default
  pub record IsPlainFieldOr
      (default : T) (table : Table) (slot : ℕ) (type_ method : List ℕ) (r : Result T Error) : Type 0
    where
      pub answer :
          Located (OrDefault default (FieldAnswer reads_plain table slot)) type_ method
          (table_start table) r
      pub read_back :
          (B : List ℕ) (x : T) → SlotHolds B table slot (holds_plain shape x) → shape.fits x
          → r ≡ Ok x
      pub left_out : (B : List ℕ) → SlotHolds B table slot None → r ≡ Ok default
      pub read_back_unless :
          (B : List ℕ) (x : T) (is_default : Bool)
          → SlotHolds B table slot (unless is_default (holds_plain shape x))
          → (IsTrue is_default → x ≡ default) → shape.fits x → r ≡ Ok x

-- T is the type of items, R that of what the vector stores.
module _ {T R : Type 0} {kind : PlainGhosts R} where
  -- the vector of these values, encoded in B
  abbrev pub ArePlain : List ℕ → List R → VectorOf (SliceView T R kind) → Type 0
  ArePlain B xs vector = ArePlainItems kind B (map kind.shape.encoded xs) vector

-- the result for an item whose read may fail
abbrev pub IsPlainResult :
    {T : Type 0} {kind : PlainGhosts T} → VectorOf (SliceView (Result T Error) T kind) → ℕ
    → Result T Error → Type 0
IsPlainResult {T} {kind} vector i r =
    Converted (Located (Answer (plain_reading kind.shape (view_of vector).bytes (i * kind.SIZE)))
    plain_name item_method (view_of vector).start) (λ (e f : Error). f ≡ e) r

-- An item whose read may fail reads back.
abbrev pub PlainResultsReadBack : {T : Type 0} → PlainGhosts T → Type 0
PlainResultsReadBack {T} kind =
    (B : List ℕ) (xs : List T) (x : T) (vector : VectorOf (SliceView (Result T Error) T kind))
    (i : ℕ)
    (r : Option (Result T Error)) → ArePlain B xs vector → slice_get xs i ≡ Some x
    → kind.shape.fits x → GetsItem (λ v. count_of v) IsPlainResult vector i r → r ≡ Some (Ok x)
