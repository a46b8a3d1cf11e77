-- A value of a fixed layout is read back.
use Rattle.std.proofs.Common.{◌≡◌, ℕ, ◌+◌, ◌<◌, ◌≤◌, List, length, drop, subst, ◌∙◌, Result, Ok, Err, inl, inr, arith, length-drop}
use Rattle.std.specs.Prelude.{IsOkAnd, IsSomeAnd, IsTrue, MatchOption, ⊤}
use Rattle.std.specs.Option.{unwrap_or}
use Rattle.std.proofs.Common.{Bool, true, false, Option, Some, None, ap, refl, sym, inr, ◌*◌, slice_get}
use Rattle.std.proofs.lemmas.List.{length-map}
use Rattle.std.specs.Option.{option_map}
use Rattle.std.proofs.lemmas.Option.{slice_get-map, slice_get_within}
use Rattle.planus_read.specs.declared.plain.Plain.{Ghosts as PlainGhosts}
use Rattle.planus_view.specs.Indexes.{GetsItem}
use Rattle.planus_view.specs.VectorView.{count_of, view_of}
use Rattle.planus_view.specs.Views.{View}
use Rattle.planus_view.specs.declared.vector.SliceView.{SliceView}
use Rattle.planus_view.specs.declared.vector_of.VectorOf.{VectorOf}
use Rattle.planus_read.specs.declared.errors.ErrorKind.{ErrorKind}
use Rattle.planus_read.specs.declared.located.Error.{Error}
use Rattle.planus_read.specs.declared.table_reader.Table.{Table}
use Rattle.planus_read.specs.Located.{Located, OrDefault}
use Rattle.planus_read.specs.Tables.{FieldAnswer, table_start}
use Rattle.planus_read.specs.Clauses.{AllHold}
use Rattle.planus_read.specs.Plain.{Shape, plain_reading}
use Rattle.planus_read.specs.Bytes.{BytesStand}
use Rattle.planus_read.specs.Stands.{FieldStands}
use Rattle.planus_read.specs.Values.{Field}
use Rattle.planus_read.proofs.ReadingLaws.{broken}
use Rattle.planus_read.proofs.SliceLaws.{bytes_in_slice}
use Rattle.planus_read.proofs.Reading.{stood_inside}
use Rattle.planus_fields.specs.Contents.{holds_if, unless}
use Rattle.planus.specs.Holds.{holds_plain}
use Rattle.planus.specs.ReadBack.{FieldHolds, SlotHolds}
use Rattle.planus.specs.ReadPlain.{reads_plain, plain_content, PlainReadBack}
use Rattle.planus.specs.ReadPlain.{IsPlainField, IsPlainFieldOr, ArePlain}
use Rattle.planus.specs.ReadPlain.{IsPlainResult, PlainResultsReadBack}
use Rattle.planus.proofs.ReadBack.{contents_read_back, absent_fields_read_back}

abbrev pub default_of : {T E : Type 0} → T → Result (Option T) E → Result T E
default_of default (Ok found) = Ok (unwrap_or found default)
default_of default (Err e) = Err e

some_is : {T E : Type 0} (r : Result (Option T) E) (x : T)
    → IsOkAnd r (λ found. IsSomeAnd found (λ found. found ≡ x)) → r ≡ Ok (Some x)
some_is {T} {E} (Ok (Some y)) x same = ap (λ (y : T). Ok (Some y)) same
some_is (Ok None) x none = elim none [ ]
some_is (Err e) x error = elim error [ ]

module _ {T : Type 0} {size alignment : ℕ} (shape : Shape T size alignment) where
  all_hold : (S : List ℕ) (f : ℕ) (x : T) → shape.fits x → BytesStand S f (shape.encoded x)
      → AllHold (plain_reading shape S f).clauses
  all_hold S f x fits here =
      let sized : length (shape.encoded x) ≡ size = shape.sized x in
      let long : length (shape.encoded x) ≤ length (drop f S) =
      stood_inside (drop f S) (shape.encoded x) here in
      let positive : 0 < size = shape.layout.positive in
      let inside : f + size ≤ length S = omega (arith, length-drop f S) in
      (inside, shape.holds S f x fits here)

  pub plain_read_back : PlainReadBack shape
  plain_read_back = contents_read_back (reads_plain shape) (λ B x. shape.fits x) (plain_content shape)
      (λ B x found. found ≡ x) answered
    where
      answered : (B : List ℕ) (x : T) (field : Field) → shape.fits x
          → FieldHolds B (plain_content shape x) field → (start f : ℕ)
          → FieldStands B (start + f) field → (r : Result T ErrorKind)
          → reads_plain shape (drop start B) start f r → IsOkAnd r (λ found. found ≡ x)
      answered B x field fits holds start f stands (Ok found) there =
          let here = bytes_in_slice B start f (shape.encoded x)
          (subst (λ (field : Field). FieldStands B (start + f) field) holds stands) in
          shape.again (drop start B) f x found fits here there
      answered B x field fits holds start f stands (Err e) it =
          let here = bytes_in_slice B start f (shape.encoded x)
          (subst (λ (field : Field). FieldStands B (start + f) field) holds stands) in
          absurd
          (broken (plain_reading shape (drop start B) f).clauses e it
          (all_hold (drop start B) f x fits here))

  pub field_read : (table : Table) (slot : ℕ) (type_ method : List ℕ) (r : Result (Option T) Error)
      → Located (FieldAnswer (reads_plain shape) table slot) type_ method (table_start table) r
      → IsPlainField shape table slot type_ method r
  field_read table slot type_ method r h =
      record { answer = h; read_back = λ B x holds fits. again B x holds fits }
    where
      again : (B : List ℕ) (x : Option T) → SlotHolds B table slot (holds_if (holds_plain shape) x)
          → MatchOption x ⊤ shape.fits → r ≡ Ok x
      again B None holds fits =
          (absent_fields_read_back (reads_plain shape)).optional B table slot holds type_ method
          (table_start table) r h
      again B (Some x) holds fits =
          some_is r x
          (plain_read_back.optional B table slot x holds fits type_ method (table_start table) r h)

  pub field_or_read : (default : T) (table : Table) (slot : ℕ) (type_ method : List ℕ)
      (r : Result (Option T) Error)
      → Located (FieldAnswer (reads_plain shape) table slot) type_ method (table_start table) r
      → IsPlainFieldOr shape default table slot type_ method (default_of default r)
  field_or_read default table slot type_ method r h =
      let read = field_read table slot type_ method r h in
      record {
        answer = answered r h;
        read_back = λ B x holds fits. ap (default_of default) (read.read_back B (Some x) holds fits);
        left_out = λ B holds. ap (default_of default) (read.read_back B None holds tt);
        read_back_unless = unless_default;
      }
    where
      unless_default : (B : List ℕ) (x : T) (is_default : Bool)
          → SlotHolds B table slot (unless is_default (holds_plain shape x))
          → (IsTrue is_default → x ≡ default) → shape.fits x → default_of default r ≡ Ok x
      unless_default B x true holds same fits =
          ap (default_of default)
          ((field_read table slot type_ method r h).read_back B None holds tt)
          ∙ ap (λ (y : T). Ok y) (sym (same refl))
      unless_default B x false holds same fits =
          ap (default_of default)
          ((field_read table slot type_ method r h).read_back B (Some x) holds fits)

      answered : (r : Result (Option T) Error)
          → Located (FieldAnswer (reads_plain shape) table slot) type_ method (table_start table) r
          → Located (OrDefault default (FieldAnswer (reads_plain shape) table slot)) type_ method
          (table_start table) (default_of default r)
      answered (Ok (Some x)) h = inl h
      answered (Ok None) h = inr (h, refl)
      answered (Err e) h = h

module _ {T : Type 0} {kind : PlainGhosts T} where
  item_stands : {I : Type 0} (B : List ℕ) (xs : List T) (x : T)
      (vector : VectorOf (SliceView I T kind)) (i : ℕ) → ArePlain B xs vector
      → slice_get xs i ≡ Some x
      → BytesStand (view_of vector).bytes (i * kind.SIZE) (kind.shape.encoded x)
  item_stands B xs x vector i are there =
      let reads = are.1.each i (kind.shape.encoded x)
      (slice_get-map kind.shape.encoded xs i ∙ ap (option_map kind.shape.encoded) there) in
      subst (λ (view : View). BytesStand view.bytes (i * kind.SIZE) (kind.shape.encoded x))
      (sym are.1.view) reads.stands

  item_within : {I : Type 0} (B : List ℕ) (xs : List T) (x : T)
      (vector : VectorOf (SliceView I T kind)) (i : ℕ) → ArePlain B xs vector
      → slice_get xs i ≡ Some x → i < count_of vector
  item_within B xs x vector i are there =
      let count : count_of vector ≡ length xs =
      ap (λ (view : View). view.count) are.1.view ∙ length-map xs kind.shape.encoded in
      let within : i < length xs = slice_get_within xs i x there in omega (arith, count, within)

  pub item_read : (B : List ℕ) (xs : List T) (x : T) (vector : VectorOf (SliceView T T kind)) (i : ℕ)
      (r : Option T) → ArePlain B xs vector → slice_get xs i ≡ Some x → kind.shape.fits x
      → GetsItem (λ (v : VectorOf (SliceView T T kind)). count_of v)
      (λ v i y. kind.shape.There (view_of v).bytes (i * kind.SIZE) y) vector i r
      → r ≡ Some x
  item_read B xs x vector i (Some y) are there fits gets =
      ap (λ (y : T). Some y)
      (kind.shape.again (view_of vector).bytes (i * kind.SIZE) x y fits
      (item_stands B xs x vector i are there) gets.1)
  item_read B xs x vector i None are there fits history =
      absurd (let within = item_within B xs x vector i are there in omega (arith, within, history))

  result_read : (B : List ℕ) (xs : List T) (x : T)
      (vector : VectorOf (SliceView (Result T Error) T kind)) (i : ℕ) (r : Option (Result T Error))
      → ArePlain B xs vector → slice_get xs i ≡ Some x → kind.shape.fits x
      → GetsItem (λ (v : VectorOf (SliceView (Result T Error) T kind)). count_of v) IsPlainResult vector i r
      → r ≡ Some (Ok x)
  result_read B xs x vector i (Some (Ok y)) are there fits gets =
      ap (λ (y : T). Some (Ok y))
      (kind.shape.again (view_of vector).bytes (i * kind.SIZE) x y fits
      (item_stands B xs x vector i are there) gets.1)
  result_read B xs x vector i (Some (Err e)) are there fits gets =
      absurd
      (broken (plain_reading kind.shape (view_of vector).bytes (i * kind.SIZE)).clauses
      gets.1.0.error_kind gets.1.1.0
      (all_hold kind.shape (view_of vector).bytes (i * kind.SIZE) x fits
      (item_stands B xs x vector i are there)))
  result_read B xs x vector i None are there fits history =
      absurd (let within = item_within B xs x vector i are there in omega (arith, within, history))

pub results_read_back : {T : Type 0} (kind : PlainGhosts T) → PlainResultsReadBack kind
results_read_back kind B xs x vector i r are there fits gets =
    result_read B xs x vector i r are there fits gets
