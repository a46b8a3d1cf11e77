use Rattle.std.proofs.Common.{◌≡◌, ℕ, ◌+◌, ◌*◌, ◌≤◌, ◌++◌, ◌∷◌, [], List, length, take, drop, Option, Some, None, Result, Ok, Err, refl, sym, ap, subst, arith, length-drop, length-take, length-append, inl, inr, ◌∙◌}
use Rattle.std.specs.Int.{w32}
use Rattle.planus_read.specs.declared.errors.ErrorKind.{ErrorKind}
use Rattle.planus_read.specs.declared.errors.ErrorKind.TheVariants as kind
use Rattle.planus_read.specs.declared.located.Error.{Error}
use Rattle.planus_read.specs.declared.plain.Plain.{Ghosts as PlainGhosts}
use Rattle.planus_read.specs.declared.table_reader.Table.{Table}
use Rattle.planus_read.specs.Bytes.{Num, BytesStand}
use Rattle.planus_read.specs.Located.{Located, Required}
use Rattle.planus_read.specs.Reading.{Leads, VectorThere}
use Rattle.planus_read.specs.Tables.{FieldAnswer, table_start, table_object, slot_of}
use Rattle.planus_view.specs.VectorView.{view_of}
use Rattle.planus_view.specs.Views.{View}
use Rattle.planus_view.specs.declared.vector.SliceView.{SliceView}
use Rattle.planus_view.specs.declared.vector_of.VectorOf.{VectorOf}
use Rattle.planus.specs.Accessors.{FieldKind, IsField, IsRequired}
use Rattle.planus.specs.ReadVectors.{reads_vector}
use Rattle.planus_foreign.specs.Calls.{Reads, ReadsThere, GivesThere, IsSame, Value, ValueIf, IsTableAt}
use Rattle.planus_foreign.specs.Inside.{EndsIn, VectorsLieInside}
use Rattle.planus_foreign.specs.Places.{IsTextSpan, TextSpan, IsTextSpanField, IsTextSpanRequired, IsTextAt, IsItemSpan, Items, ItemsIf}
use Rattle.planus_foreign.specs.Statuses.{fine, status_of}
use Rattle.planus_foreign.specs.declared.span.Span.{Span}

-- no error has the status 0
unstated : (k : ErrorKind) → 0 ≡ status_of k → ⊥
unstated kind.InvalidOffset is = omega (arith, is)
unstated kind.InvalidLength is = omega (arith, is)
unstated (kind.UnionVectorLengthsMismatched tags values) is = omega (arith, is)
unstated (kind.UnknownEnumTag source) is = omega (arith, is)
unstated (kind.UnknownUnionTag tag) is = omega (arith, is)
unstated (kind.InvalidVtableLength length) is = omega (arith, is)
unstated (kind.InvalidUtf8 source) is = omega (arith, is)
unstated kind.MissingRequired is = omega (arith, is)
unstated kind.MissingNullTerminator is = omega (arith, is)

-- what ends within a table's bytes ends within the buffer
in_buffer :
    (buffer object : List ℕ) (begin last : ℕ) → object ≡ drop begin buffer → 4 ≤ last
    → last ≤ length object → begin + last ≤ length buffer
in_buffer buffer object begin last is some within =
    omega (arith, some, within, ap length is ∙ length-drop begin buffer)

table_ends :
    (buffer : List ℕ) (position last : ℕ) (table : Table) → IsTableAt buffer position (Ok table)
    → 4 ≤ last → last ≤ length (table_object table) → table_start table + last ≤ length buffer
table_ends buffer position last table there some within =
    omega (arith, there.2.object_start, in_buffer buffer (table_object table) there.0.object last there.2.object_bytes some within)

-- a string ends before its null
text_ends :
    (S content : List ℕ) (k : ℕ) → BytesStand S k (content ++ 0 ∷ []) → k + length content ≤ length S
text_ends S content k stands =
    omega (arith, ap length stands, length-take (length (content ++ 0 ∷ [])) (drop k S), length-drop k S, length-append content (0 ∷ []))

leads_once : (S : List ℕ) (f j k : ℕ) → Leads S f j → Leads S f k → j ≡ k
leads_once S f j k one two =
    let first = one.1 in let second = two.1 in let begin = one.2 in let end = two.2 in cc

-- where a string's span ends, from the beginning of the bytes
text_last :
    (S : List ℕ) (start f : ℕ) (span : Span) → TextSpan S start f span
    → (last : ℕ) × (4 ≤ last) × (last ≤ length S) × (span.at + span.len * 1 ≡ start + last)
text_last S start f span is =
    let same = leads_once S f is.text.0 is.head.begin is.text.1 is.head.reference in
    let within = text_ends S is.content (is.text.0 + 4) is.text.2.1 in
    (is.position + length is.content, omega (arith, is.head.behind), omega (arith, same, within, is.head.behind), omega (arith, is.begin, is.counted))

span_inside :
    (buffer : List ℕ) (position f : ℕ) (table : Table) (span : Span)
    → IsTableAt buffer position (Ok table) → TextSpan (table_object table) (table_start table) f span
    → EndsIn buffer 1 span
span_inside buffer position f table span there is =
    let last = text_last (table_object table) (table_start table) f span is in
    omega (arith, last.3, table_ends buffer position last.0 table there last.1 last.2)

text_field :
    (buffer : List ℕ) (position slot : ℕ) (type_ method : List ℕ) (old new : Span) (table : Table)
    → IsTableAt buffer position (Ok table) → (r : Result (Option Span) Error)
    → IsTextSpanField table slot type_ method r → ValueIf r old new fine → EndsIn buffer 1 new
text_field buffer position slot type_ method old new table there (Ok (Some span)) is stored =
    rw stored.0 (span_inside buffer position (slot_of table slot) table span there is.1)
text_field buffer position slot type_ method old new table there (Ok None) is stored = absurd (omega (arith, stored.1))
text_field buffer position slot type_ method old new table there (Err e) is stored = absurd (unstated e.error_kind stored.1)

text_required :
    (buffer : List ℕ) (position slot : ℕ) (type_ method : List ℕ) (old new : Span) (table : Table)
    → IsTableAt buffer position (Ok table) → (r : Result Span Error)
    → IsTextSpanRequired table slot type_ method r → Value r old new fine → EndsIn buffer 1 new
text_required buffer position slot type_ method old new table there (Ok span) is stored =
    rw stored.0 (span_inside buffer position (slot_of table slot) table span there is.1)
text_required buffer position slot type_ method old new table there (Err e) is stored = absurd (unstated e.error_kind stored.1)

-- of a call that found a table, what its accessor's result says
reads_inside :
    {R T : Type 0} {IsResult : Table → R → Type 0} {Stores : R → T → T → ℕ → Type 0}
    (Inside : T → Type 0) (buffer : List ℕ) (position : ℕ) (old new : T)
    → ((table : Table) → IsTableAt buffer position (Ok table) → (r : R) → IsResult table r
    → Stores r old new fine → Inside new)
    → Reads IsResult Stores buffer position old new fine → Inside new
reads_inside Inside buffer position old new each (inl found) = each found.table found.there found.result found.is found.stores
reads_inside Inside buffer position old new each (inr none) = absurd (unstated none.kind none.said)

pub string_fields :
    (buffer : List ℕ) (position slot : ℕ) (type_ method : List ℕ) (old new : Span)
    → (Reads (λ t. IsTextSpanField t slot type_ method) ValueIf buffer position old new fine
    → EndsIn buffer 1 new)
    × (Reads (λ t. IsTextSpanRequired t slot type_ method) Value buffer position old new fine
    → EndsIn buffer 1 new)
string_fields buffer position slot type_ method old new = (
  reads_inside (EndsIn buffer 1) buffer position old new (text_field buffer position slot type_ method old new),
  reads_inside (EndsIn buffer 1) buffer position old new (text_required buffer position slot type_ method old new),
)

there_inside :
    (buffer : List ℕ) (position : ℕ) (old new : Span) (r : Result Span ErrorKind)
    → IsTextAt buffer position r → GivesThere IsSame r old new fine → EndsIn buffer 1 new
there_inside buffer position old new (Ok span) is stored =
    rw stored.0 (let last = text_last buffer 0 position span is in omega (arith, last.3, last.2))
there_inside buffer position old new (Err e) is stored = absurd (unstated e stored.1)

pub strings_there :
    (buffer : List ℕ) (position : ℕ) (old new : Span)
    → ReadsThere IsTextAt IsSame buffer position old new fine → EndsIn buffer 1 new
strings_there buffer position old new reads = there_inside buffer position old new reads.result reads.is reads.stores

module _ {T R : Type 0} {kind : PlainGhosts R} where
  vector_inside :
      (buffer : List ℕ) (position f : ℕ) (table : Table) (vector : VectorOf (SliceView T R kind)) (new : Span)
      → IsTableAt buffer position (Ok table)
      → reads_vector T kind (table_object table) (table_start table) f (Ok vector)
      → IsItemSpan vector new → EndsIn buffer kind.SIZE new
  vector_inside buffer position f table vector new there is span =
      let items = is.0 in
      let shown = is.2 in
      let start : (view_of vector).start ≡ table_start table + items.position = ap (λ (v : View). v.start) shown in
      let count : (view_of vector).count ≡ items.count = ap (λ (v : View). v.count) shown in
      let begin : 4 ≤ items.position = omega (arith, is.1.head.behind) in
      let ends = table_ends buffer position (items.position + items.count * kind.SIZE) table there (omega (arith, begin)) is.1.inside in
      rw span.0 (rw span.1 (rw start (rw count (omega (arith, ends)))))

  vector_if :
      (buffer : List ℕ) (position slot : ℕ) (old new : Span) (table : Table)
      (type_ method : List ℕ)
      → IsTableAt buffer position (Ok table) → (r : Result (Option (VectorOf (SliceView T R kind))) Error)
      → Located (FieldAnswer (reads_vector T kind) table slot) type_ method (table_start table) r
      → ItemsIf r old new fine → EndsIn buffer kind.SIZE new
  vector_if buffer position slot old new table type_ method there (Ok (Some vector)) is stored =
      vector_inside buffer position (slot_of table slot) table vector new there is.1 stored.0
  vector_if buffer position slot old new table type_ method there (Ok None) is stored = absurd (omega (arith, stored.1))
  vector_if buffer position slot old new table type_ method there (Err e) is stored = absurd (unstated e.error_kind stored.1)

  vector_required :
      (buffer : List ℕ) (position slot : ℕ) (old new : Span) (table : Table)
      (type_ method : List ℕ)
      → IsTableAt buffer position (Ok table) → (r : Result (VectorOf (SliceView T R kind)) Error)
      → Located (Required (FieldAnswer (reads_vector T kind) table slot)) type_ method (table_start table) r
      → Items r old new fine → EndsIn buffer kind.SIZE new
  vector_required buffer position slot old new table type_ method there (Ok vector) is stored =
      vector_inside buffer position (slot_of table slot) table vector new there is.1 stored.0
  vector_required buffer position slot old new table type_ method there (Err e) is stored = absurd (unstated e.error_kind stored.1)

pub vectors :
    {X G T R : Type 0} {kind : PlainGhosts R} (field : FieldKind X G (VectorOf (SliceView T R kind)))
    → field.reads ≡ reads_vector T kind → VectorsLieInside field
vectors {kind = kind} field same buffer position slot type_ method old new = (
  reads_inside (EndsIn buffer kind.SIZE) buffer position old new
      (λ table there r is. vector_if buffer position slot old new table type_ method there r
      (subst (λ reads. Located (FieldAnswer reads table slot) type_ method (table_start table) r) same is.answer)),
  reads_inside (EndsIn buffer kind.SIZE) buffer position old new
      (λ table there r is. vector_required buffer position slot old new table type_ method there r
      (subst (λ reads. Located (Required (FieldAnswer reads table slot)) type_ method (table_start table) r) same is.answer)),
)
