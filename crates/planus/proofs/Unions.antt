-- A union is read as the variant with its tag.
use Rattle.std.proofs.Common.{◌≡◌, ℕ, ◌+◌, ◌≤◌, List, [], ◌∷◌, length, take, drop, sym, subst, ap}
use Rattle.std.proofs.Common.{◌∙◌, Option, Some, None, Result, Ok, Err, inl, inr, arith, length-drop}
use Rattle.std.specs.Prelude.{IsOkAnd, IsSomeAnd}
use Rattle.std.specs.Borrow.{Bor}
use Rattle.std.specs.Str.{IsUtf8}
use Rattle.planus_read.specs.declared.errors.ErrorKind.{ErrorKind}
use Rattle.planus_read.specs.declared.slice_helpers.SliceWithStartOffset.{SliceWithStartOffset}
use Rattle.planus_read.specs.declared.table_reader.Table.{Table}
use Rattle.planus_read.specs.Bytes.{BytesStand, position_of}
use Rattle.planus_read.specs.Slices.{slice_bytes, ShowsBytes}
use Rattle.planus_read.specs.Reading.{Leads, target, text_reading, plain_ref_clauses}
use Rattle.planus_read.specs.Stands.{Stands, ApartStands, at}
use Rattle.planus_read.specs.Tables.{ReadsBoth}
use Rattle.planus_read.specs.Values.{Value, Field, reference, text, apart}
use Rattle.planus_read.proofs.Reading.{leads_inside, leads_to, stood_inside}
use Rattle.planus_read.proofs.SliceLaws.{bytes_in_slice, leads_in_slices, references_lead}
use Rattle.planus_read.proofs.ReadingLaws.{broken, is_shown, lawful_text}
use Rattle.planus_read.proofs.ReadsBack.{what_stands_reads_back}
use Rattle.planus_write.specs.Contents.{Content, item, value, values, written, union_tags}
use Rattle.planus_write.specs.Contents.{union_values, written_tags, written_values}
use Rattle.planus.specs.ReadBack.{FieldHolds, ContentsStand}
use Rattle.planus.specs.ReadKinds.{reads_text}
use Rattle.planus.specs.ReadUnions.{IsReference, ReadsUnion}
use Rattle.planus.specs.Unions.{UnionVariant, table_variant, text_variant, struct_variant}
use Rattle.planus.specs.Unions.{IsTableIn, IsTextIn, IsApart, reads_struct}
use Rattle.planus.specs.Unions.{ReadsVariant, ReadsTagged, ReadsVariants}
use Rattle.planus.specs.Unions.{IsKnown, IsUnknown, HasVariants, VariantStands, EachStands}
use Rattle.planus.specs.Unions.{UnionStands, IsVariant, IsUnion}
use Rattle.planus.proofs.Accessors.{view_led}

text_led : (B bytes : List ℕ) (distance : ℕ) → IsUtf8 bytes
    → Stands B (at (position_of B distance)) (text bytes) → (start f : ℕ)
    → Leads B (start + f) (position_of B distance) → (r : Result (Bor (List ℕ)) ErrorKind)
    → reads_text (drop start B) start f r → IsOkAnd r (λ lent. lent.now ≡ bytes)
text_led B bytes distance utf8 stands start f leads r h =
    let read = what_stands_reads_back B (at (position_of B distance)) (text bytes) utf8 stands start f
    leads in
    is_shown (text_reading (drop start B) f) ShowsBytes (lawful_text (drop start B) f) bytes read.there
    r h

struct_led : (B bytes : List ℕ) (distance : ℕ) → ApartStands B (position_of B distance) bytes
    → (start f : ℕ) → Leads B (start + f) (position_of B distance) → (r : Result SliceWithStartOffset ErrorKind)
    → reads_struct (length bytes) (drop start B) start f r
    → IsOkAnd r (λ slice. BytesStand (slice_bytes slice) 0 bytes)
struct_led B bytes distance stands start f leads r h = answered r h
  where
    S : List ℕ
    S = drop start B

    position : ℕ
    position = f + leads.0

    here : Leads S f position
    here = leads_in_slices B start f position
        (leads.0, leads.1, (let e : start + position ≡ start + f + leads.0 = omega arith in e))

    stood : BytesStand S position bytes
    stood =
        let to : position_of B distance ≡ start + f + leads.0 = leads.2 in
        let at : position_of B distance ≡ start + position = omega (arith, to) in
        bytes_in_slice B start position bytes (subst (λ p. BytesStand B p bytes) at stands.1)

    inside : target S f + length bytes ≤ length S
    inside =
        let to : position_of B distance ≡ start + f + leads.0 = leads.2 in
        let within : position_of B distance + length bytes ≤ length B = stands.0 in
        let at = leads_to S f position here in
        omega (arith, to, within, at, length-drop start B)

    answered : (r : Result SliceWithStartOffset ErrorKind)
        → reads_struct (length bytes) (drop start B) start f r
        → IsOkAnd r (λ slice. BytesStand (slice_bytes slice) 0 bytes)
    answered (Ok slice) h =
        let at : position ≡ h.0 = leads_to S f position here ∙ sym (leads_to S f h.0 h.1.0) in
        subst (λ (l : List ℕ). take (length bytes) l ≡ bytes) (sym h.2.bytes)
        (subst (λ p. BytesStand S p bytes) at stood)
    answered (Err e) h = absurd
        (broken (plain_ref_clauses (length bytes) S f) e h
        (leads_inside S f position here, (inside, tt)))

abbrev distance_of : Field → ℕ
distance_of (reference distance) = distance
distance_of _ = 0

table_stands : (B : List ℕ) (content : Content) (contents : List (ℕ × Option Content)) (distance : ℕ)
    → IsTableIn B content contents → FieldHolds B content (reference distance)
    → ContentsStand B contents distance
table_stands B (written d) contents distance is holds =
    subst (ContentsStand B contents) (sym (ap distance_of holds)) is
table_stands B (item _) contents distance is holds = elim is [ ]
table_stands B (value _) contents distance is holds = elim is [ ]
table_stands B (values _) contents distance is holds = elim is [ ]
table_stands B (union_tags _) contents distance is holds = elim is [ ]
table_stands B (union_values _) contents distance is holds = elim is [ ]
table_stands B (written_tags _) contents distance is holds = elim is [ ]
table_stands B (written_values _) contents distance is holds = elim is [ ]

text_stands : (B : List ℕ) (content : Content) (bytes : List ℕ) (distance : ℕ)
    → IsTextIn B content bytes → FieldHolds B content (reference distance)
    → Stands B (at (position_of B distance)) (text bytes)
text_stands B (written d) bytes distance is holds =
    subst (λ (d : ℕ). Stands B (at (position_of B d)) (text bytes)) (sym (ap distance_of holds)) is
text_stands B (value content) bytes distance is holds =
    let there : Stands B (at (position_of B distance)) content =
    subst (λ (d : ℕ). Stands B (at (position_of B d)) content) (sym (ap distance_of holds.1)) holds.2 in
    subst (λ (content : Value). Stands B (at (position_of B distance)) content) is there
text_stands B (item _) bytes distance is holds = elim is [ ]
text_stands B (values _) bytes distance is holds = elim is [ ]
text_stands B (union_tags _) bytes distance is holds = elim is [ ]
text_stands B (union_values _) bytes distance is holds = elim is [ ]
text_stands B (written_tags _) bytes distance is holds = elim is [ ]
text_stands B (written_values _) bytes distance is holds = elim is [ ]

struct_stands : (B : List ℕ) (content : Content) (bytes : List ℕ) (distance : ℕ)
    → IsApart B content bytes → FieldHolds B content (reference distance)
    → ApartStands B (position_of B distance) bytes
struct_stands B (written d) bytes distance is holds =
    subst (λ (d : ℕ). ApartStands B (position_of B d) bytes) (sym (ap distance_of holds)) is
struct_stands B (value content) bytes distance is holds =
    let there : Stands B (at (position_of B distance)) content =
    subst (λ (d : ℕ). Stands B (at (position_of B d)) content) (sym (ap distance_of holds.1)) holds.2 in
    subst (λ (content : Value). Stands B (at (position_of B distance)) content) is.1 there
struct_stands B (item _) bytes distance is holds = elim is [ ]
struct_stands B (values _) bytes distance is holds = elim is [ ]
struct_stands B (union_tags _) bytes distance is holds = elim is [ ]
struct_stands B (union_values _) bytes distance is holds = elim is [ ]
struct_stands B (written_tags _) bytes distance is holds = elim is [ ]
struct_stands B (written_values _) bytes distance is holds = elim is [ ]

abbrev the_table : Table → Table
the_table table = table

when_some : {A : Type 0} {P Q : A → Type 0} (found : Option A) → ((x : A) → P x → Q x)
    → IsSomeAnd found P → IsSomeAnd found Q
when_some (Some x) more h = more x h
when_some None more h = h

module _ {U : Type 0} (B : List ℕ) (tag : ℕ) (content : Content) (start f distance : ℕ)
    (holds : FieldHolds B content (reference distance))
    (leads : Leads B (start + f) (position_of B distance)) where
  variant_found : (variant : UnionVariant U) (union : U)
      → ReadsVariant variant (drop start B) start f (Ok union) → IsVariant variant B content union
  variant_found (table_variant tag table_of) union h =
      when_some (table_of union)
      (λ table h contents is. view_led the_table B contents distance
      (table_stands B content contents distance is holds) start f leads (Ok table) h)
      h
  variant_found (text_variant tag text_of) union h =
      when_some (text_of union)
      (λ lent h bytes utf8 is. text_led B bytes distance utf8
      (text_stands B content bytes distance is holds) start f leads (Ok lent) h)
      h
  variant_found (struct_variant tag size slice_of) union h =
      when_some (slice_of union)
      (λ slice h bytes sized is. struct_led B bytes distance
      (struct_stands B content bytes distance is holds) start f leads (Ok slice)
      (subst (λ size. reads_struct size (drop start B) start f (Ok slice)) (sym sized) h))
      h

  variant_refused : (variant : UnionVariant U) (e : ErrorKind) → VariantStands variant B content
      → ReadsVariant variant (drop start B) start f (Err e) → ⊥
  variant_refused (table_variant tag table_of) e stands h =
      view_led the_table B stands.0 distance (table_stands B content stands.0 distance stands.1 holds)
      start f leads (Err e) h
  variant_refused (text_variant tag text_of) e stands h =
      text_led B stands.0 distance stands.1 (text_stands B content stands.0 distance stands.2 holds)
      start f leads (Err e) h
  variant_refused (struct_variant tag size slice_of) e stands h =
      struct_led B stands.0 distance (struct_stands B content stands.0 distance stands.2 holds)
      start f leads (Err e)
      (subst (λ size. reads_struct size (drop start B) start f (Err e)) (sym stands.1) h)

  tagged_found : (variants : List (UnionVariant U)) (union : U)
      → ReadsTagged variants (drop start B) start tag f (Ok union) → IsUnion variants B tag content union
  tagged_found [] union h = h
  tagged_found (variant ∷ variants) union (inl h) = inl (h.0, variant_found variant union h.1)
  tagged_found (variant ∷ variants) union (inr h) = inr (tagged_found variants union h)

  tagged_refused : (variants : List (UnionVariant U)) (e : ErrorKind)
      → EachStands variants B tag content
      → ReadsTagged variants (drop start B) start tag f (Err e) → ⊥
  tagged_refused [] e each h = h
  tagged_refused (variant ∷ variants) e each (inl h) = variant_refused variant e (each.0 h.0) h.1
  tagged_refused (variant ∷ variants) e each (inr h) = tagged_refused variants e each.1 h

known_or_not : {U : Type 0} (variants : List (UnionVariant U)) (tag : ℕ) → IsKnown variants tag
    → IsUnknown variants tag → ⊥
known_or_not [] tag known unknown = known
known_or_not (variant ∷ variants) tag (inl same) unknown = unknown.0 same
known_or_not (variant ∷ variants) tag (inr known) unknown = known_or_not variants tag known unknown.1

table_refers : (B : List ℕ) (content : Content) (contents : List (ℕ × Option Content))
    → IsTableIn B content contents → IsReference content
table_refers B (written d) contents is = tt
table_refers B (item _) contents is = is
table_refers B (value _) contents is = tt
table_refers B (values _) contents is = tt
table_refers B (union_tags _) contents is = is
table_refers B (union_values _) contents is = is
table_refers B (written_tags _) contents is = is
table_refers B (written_values _) contents is = is

text_refers : (B : List ℕ) (content : Content) (bytes : List ℕ) → IsTextIn B content bytes
    → IsReference content
text_refers B (written d) bytes is = tt
text_refers B (item _) bytes is = is
text_refers B (value _) bytes is = tt
text_refers B (values _) bytes is = tt
text_refers B (union_tags _) bytes is = is
text_refers B (union_values _) bytes is = is
text_refers B (written_tags _) bytes is = is
text_refers B (written_values _) bytes is = is

struct_refers : (B : List ℕ) (content : Content) (bytes : List ℕ) → IsApart B content bytes
    → IsReference content
struct_refers B (written d) bytes is = tt
struct_refers B (item _) bytes is = is
struct_refers B (value _) bytes is = tt
struct_refers B (values _) bytes is = tt
struct_refers B (union_tags _) bytes is = is
struct_refers B (union_values _) bytes is = is
struct_refers B (written_tags _) bytes is = is
struct_refers B (written_values _) bytes is = is

variant_refers : {U : Type 0} (variant : UnionVariant U) (B : List ℕ) (content : Content)
    → VariantStands variant B content → IsReference content
variant_refers (table_variant tag table_of) B content stands = table_refers B content stands.0 stands.1
variant_refers (text_variant tag text_of) B content stands = text_refers B content stands.0 stands.2
variant_refers (struct_variant tag size slice_of) B content stands =
    struct_refers B content stands.0 stands.2

pub union_refers : {U : Type 0} (variants : List (UnionVariant U)) (B : List ℕ) (tag : ℕ)
    (content : Content) → IsKnown variants tag → EachStands variants B tag content
    → IsReference content
union_refers [] B tag content known each = elim known [ ]
union_refers (variant ∷ variants) B tag content (inl same) each =
    variant_refers variant B content (each.0 same)
union_refers (variant ∷ variants) B tag content (inr known) each =
    union_refers variants B tag content known each.1

pub variants_read : {U : Type 0} (reads : ReadsBoth U) (variants : List (UnionVariant U))
    → HasVariants reads variants → (B : List ℕ) (tag : ℕ) (content : Content)
    → UnionStands variants B tag content → (start f distance : ℕ)
    → FieldHolds B content (reference distance) → Leads B (start + f) (position_of B distance)
    → (r : Result U ErrorKind) → reads (drop start B) start tag f r
    → IsOkAnd r (IsUnion variants B tag content)
variants_read reads variants has B tag content stands start f distance holds leads (Ok union) h =
    tagged_found B tag content start f distance holds leads variants union
    (has (drop start B) start tag f (Ok union) h)
variants_read {U} reads variants has B tag content stands start f distance holds leads (Err e) h =
    refused (has (drop start B) start tag f (Err e) h)
  where
    refused : ReadsVariants variants (drop start B) start tag f (Err e) → ⊥
    refused (inl h) =
        tagged_refused B tag content start f distance holds leads variants e stands.each h
    refused (inr h) = known_or_not variants tag stands.known h.0

pub union_is : {U : Type 0} (reads : ReadsBoth U) (variants : List (UnionVariant U))
    → HasVariants reads variants → (B : List ℕ) (tag : ℕ) (content : Content)
    → UnionStands variants B tag content → (r : Result U ErrorKind)
    → ReadsUnion reads B tag content r → IsOkAnd r (IsUnion variants B tag content)
union_is reads variants has B tag content stands r h =
    variants_read reads variants has B tag content stands h.0 h.1 h.2 h.3
    (references_lead B (h.0 + h.1) h.2 h.4) r h.5
