-- Readings that pass their tests.
use Rattle.std.proofs.Common.{◌≡◌, ℕ, suc, ◌+◌, ◌*◌, ◌≤◌, List, [], ◌∷◌, length, drop, take, get_or, refl, sym, ap, ◌∙◌, subst, arith, Some, None, Result, Ok}
use Rattle.std.specs.Prelude.{nat_le, slice_index, not, ◌==◌}
use Rattle.std.specs.Fmt.{decimal, signed_decimal}
use Rattle.std.specs.Int.{Width, w8, w16, w32, w64, byte_len, cast_signed, from_le_bytes}
use Rattle.std.proofs.lemmas.Bool.{le-leb}
use Rattle.std.proofs.Math.Seq.{drop-cons}
use Rattle.planus_read.specs.declared.errors.ErrorKind.TheVariants.{InvalidLength}
use Rattle.planus_read.specs.Bytes.{Num}
use Rattle.planus_read.specs.Clauses.{clause, AllHold}
use Rattle.planus_read.specs.Reading.{number, count_at, items_at, TextThere, ByteListThere, Items, UnionItems, vector_reading, byte_list_clauses, text_clauses, vector_clauses, union_vector_reading, union_vector_clauses}
use Rattle.planus_read.specs.ReadingLaws.{IsAnswered}
use Rattle.planus_read.proofs.Reading.{num_inside, num_value, text_holds, byte_list_holds, vector_holds, union_vector_holds}
use Rattle.planus_dump.specs.Lines.{quoted, bytes_text, truth_text}
use Rattle.planus_dump.specs.Tests.{test, answered, number_test, text_tests, byte_list_tests, vector_tests, union_vector_tests, content_at}
use Rattle.planus_dump.specs.Answers.{leaf_at, unsigned_at, signed_at, SeenItems, vector_at, SeenUnions, union_vector_at}
use Rattle.planus_dump.specs.Events.{TableEvents, answer_event, leaf_events, item_events, number_width, place_events, stride_of}
use Rattle.planus_dump.specs.Faults.{HaveNoFault}
use Rattle.planus_dump.specs.Describes.{plain_size, plain_field_size}
use Rattle.planus_dump.specs.declared.schemas.Kind.{Kind}
use Rattle.planus_dump.specs.declared.schemas.Kind.TheVariants.{One, List as ListOf, Union, UnionVector, Bytes, Fixed, FixedList, Nested}
use Rattle.planus_dump.specs.declared.schemas.Number.{Number}
use Rattle.planus_dump.specs.declared.schemas.Number.TheVariants as numbers
use Rattle.planus_dump.specs.declared.schemas.Item.{Item}
use Rattle.planus_dump.specs.declared.schemas.Item.TheVariants.{Number as NumberItem, Bool, Text, Table}
use Rattle.planus_dump.specs.declared.values.Leaf.TheVariants.{Number as LeafNumber, Bool as LeafBool, Text as LeafText, Bytes as LeafBytes}
use Rattle.planus_dump.proofs.Matching.{Matches, all_pass, le_match}
use Rattle.planus_dump.proofs.Answering.{head_matches, text_matches, union_vector_matches}

pub value_event : (path : List ℕ) (r : Result (List ℕ) (List ℕ)) (text : List ℕ) → r ≡ Ok text → HaveNoFault (answer_event path r ∷ [])
value_event path r text e = subst (λ (a : Result (List ℕ) (List ℕ)). HaveNoFault (answer_event path a ∷ [])) (sym e) (refl, tt)

number_passes : {A : Type 0} (S : List ℕ) (f : ℕ) (w : Width) (x : A) → f + byte_len w ≤ length S → answered (number_test S f w ∷ []) x ≡ Ok x
number_passes S f w x h = rw (le-leb (f + byte_len w) (length S) h) refl

unsigned_event : (w : Width) (S : List ℕ) (f : ℕ) (path : List ℕ) → f + byte_len w ≤ length S → HaveNoFault (answer_event path (unsigned_at w S f) ∷ [])
unsigned_event w S f path inside = value_event path (unsigned_at w S f) (decimal (number S f w)) (number_passes S f w (decimal (number S f w)) inside)

signed_event : (w : Width) (S : List ℕ) (f : ℕ) (path : List ℕ) → f + byte_len w ≤ length S → HaveNoFault (answer_event path (signed_at w S f) ∷ [])
signed_event w S f path inside = value_event path (signed_at w S f) (signed_decimal (cast_signed w (number S f w))) (number_passes S f w (signed_decimal (cast_signed w (number S f w))) inside)

number_event : (number : Number) (S : List ℕ) (f : ℕ) (path : List ℕ) → f + byte_len (number_width number) ≤ length S → HaveNoFault (leaf_events (LeafNumber number) S f path)
number_event numbers.U8 S f path inside = unsigned_event w8 S f path inside
number_event numbers.U16 S f path inside = unsigned_event w16 S f path inside
number_event numbers.U32 S f path inside = unsigned_event w32 S f path inside
number_event numbers.U64 S f path inside = unsigned_event w64 S f path inside
number_event numbers.I8 S f path inside = signed_event w8 S f path inside
number_event numbers.I16 S f path inside = signed_event w16 S f path inside
number_event numbers.I32 S f path inside = signed_event w32 S f path inside
number_event numbers.I64 S f path inside = signed_event w64 S f path inside

truth_event : (S : List ℕ) (f : ℕ) (path : List ℕ) → f + 1 ≤ length S → HaveNoFault (leaf_events LeafBool S f path)
truth_event S f path inside = value_event path (leaf_at LeafBool S f) (truth_text (not (number S f w8 == 0))) (number_passes S f w8 (truth_text (not (number S f w8 == 0))) inside)

some_same : (a b : ℕ) → Some a ≡ Some b → a ≡ b
some_same a b e = cc

pub plain_item_event : (E : TableEvents) (item : Item) (size : ℕ) (S : List ℕ) (f : ℕ) (path : List ℕ) → plain_size item ≡ Some size → f + size ≤ length S
    → HaveNoFault (item_events E item S f path)
plain_item_event E (NumberItem number) size S f path e inside =
    let same : byte_len (number_width number) ≡ size = some_same (byte_len (number_width number)) size e in number_event number S f path (omega (arith, same, inside))
plain_item_event E Bool size S f path e inside = let same : 1 ≡ size = some_same 1 size e in truth_event S f path (omega arith)
plain_item_event E Text size S f path e inside = cc
plain_item_event E (Table index) size S f path e inside = cc

pub plain_field_event : (E : TableEvents) (kind : Kind) (size : ℕ) (S : List ℕ) (f : ℕ) (path : List ℕ) → plain_field_size kind ≡ Some size → f + size ≤ length S
    → HaveNoFault (place_events E kind S f path)
plain_field_event E (One item) size S f path e inside = plain_item_event E item size S f path e inside
plain_field_event E Bytes size S f path e inside = cc
plain_field_event E (ListOf item) size S f path e inside = cc
plain_field_event E (Union index) size S f path e inside = cc
plain_field_event E (UnionVector index) size S f path e inside = cc
plain_field_event E (Fixed value) size S f path e inside = cc
plain_field_event E (FixedList value) size S f path e inside = cc
plain_field_event E (Nested index) size S f path e inside = cc

pub plain_stride : (item : Item) (size : ℕ) → plain_size item ≡ Some size → stride_of item ≡ size
plain_stride (NumberItem number) size e = some_same (byte_len (number_width number)) size e
plain_stride Bool size e = some_same 1 size e
plain_stride Text size e = cc
plain_stride (Table index) size e = cc

pub reference_stride : (item : Item) → plain_size item ≡ None → stride_of item ≡ 4
reference_stride (NumberItem number) e = cc
reference_stride Bool e = cc
reference_stride Text e = refl
reference_stride (Table index) e = refl

pub text_event : (S : List ℕ) (f : ℕ) (content path : List ℕ) → TextThere S f content → HaveNoFault (leaf_events LeafText S f path)
text_event S f content path there =
    value_event path (leaf_at LeafText S f) (quoted (content_at S f)) (all_pass (text_clauses S f) (text_tests S f) (quoted (content_at S f)) (text_matches S f) (text_holds S f content there).0)

pub byte_list_matches : (S : List ℕ) (f : ℕ) → Matches (byte_list_clauses S f) (byte_list_tests S f)
byte_list_matches S f =
    head_matches S f (clause (items_at S f + count_at S f ≤ length S) InvalidLength ∷ []) (test (nat_le (items_at S f + count_at S f) (length S)) InvalidLength ∷ [])
    (le_match (items_at S f + count_at S f) (length S) InvalidLength, tt)

pub byte_list_event : (S : List ℕ) (f : ℕ) (content path : List ℕ) → ByteListThere S f content → HaveNoFault (leaf_events LeafBytes S f path)
byte_list_event S f content path there =
    value_event path (leaf_at LeafBytes S f) (bytes_text (content_at S f)) (all_pass (byte_list_clauses S f) (byte_list_tests S f) (bytes_text (content_at S f)) (byte_list_matches S f) (byte_list_holds S f content there).0)

pub vector_matches : (S : List ℕ) (f stride : ℕ) → Matches (vector_clauses S f stride) (vector_tests S f stride)
vector_matches S f stride =
    head_matches S f (clause (items_at S f + count_at S f * stride ≤ length S) InvalidLength ∷ []) (test (nat_le (items_at S f + count_at S f * stride) (length S)) InvalidLength ∷ [])
    (le_match (items_at S f + count_at S f * stride) (length S) InvalidLength, tt)

pub record VectorIs (stride : ℕ) (S : List ℕ) (f : ℕ) : Type 0 where
  pub is : vector_at stride S f ≡ Ok (record { bytes = drop (items_at S f) S; count = count_at S f })
  pub inside : items_at S f + count_at S f * stride ≤ length S

vector_passes : (stride : ℕ) (S : List ℕ) (f : ℕ) → AllHold (vector_clauses S f stride) → VectorIs stride S f
vector_passes stride S f h =
    let seen : SeenItems = record { bytes = drop (items_at S f) S; count = count_at S f } in
    record { is = all_pass (vector_clauses S f stride) (vector_tests S f stride) seen (vector_matches S f stride) h; inside = h.1.1.1.0 }

pub record AnsweredVector (stride : ℕ) (S : List ℕ) (f : ℕ) (items : Items) : Type 0 where
  pub vector : VectorIs stride S f
  pub position : items.position ≡ items_at S f
  pub count : items.count ≡ count_at S f

pub answered_vector : (stride : ℕ) (S : List ℕ) (f : ℕ) (items : Items) → IsAnswered (vector_reading S f stride) items → AnsweredVector stride S f items
answered_vector stride S f items a =
    let holds : AllHold (vector_clauses S f stride) × (items.position ≡ items_at S f) × (items.count ≡ count_at S f) = vector_holds S f stride items.position items.count a.there in
    record { vector = vector_passes stride S f holds.0; position = holds.1; count = holds.2 }

pub bytes_vector : (S : List ℕ) (f : ℕ) (content : List ℕ) → ByteListThere S f content → VectorIs 1 S f
bytes_vector S f content there =
    let h : AllHold (byte_list_clauses S f) = (byte_list_holds S f content there).0 in
    let inside : items_at S f + count_at S f * 1 ≤ length S = omega (arith, h.1.1.1.0) in
    vector_passes 1 S f (h.0, (h.1.0, (h.1.1.0, (inside, tt))))

pub record AnsweredUnions (S : List ℕ) (f g : ℕ) (items : UnionItems) : Type 0 where
  pub is : union_vector_at S f g ≡ Ok (record { tags = drop (items_at S f) S; references = drop (items_at S g) S; count = count_at S f })
  pub tags : items.tags ≡ items_at S f
  pub references : items.references ≡ items_at S g
  pub count : items.count ≡ count_at S f

pub answered_unions : (S : List ℕ) (f g : ℕ) (items : UnionItems) → IsAnswered (union_vector_reading S f g) items → AnsweredUnions S f g items
answered_unions S f g items a =
    let seen : SeenUnions = record { tags = drop (items_at S f) S; references = drop (items_at S g) S; count = count_at S f } in
    let tags : AllHold (vector_clauses S f 1) × (items.tags ≡ items_at S f) × (items.count ≡ count_at S f) = vector_holds S f 1 items.tags items.count a.there.tags_there in
    let references : AllHold (vector_clauses S g 4) × (items.references ≡ items_at S g) × (items.count ≡ count_at S g) = vector_holds S g 4 items.references items.count a.there.references_there in
    record {
      is = all_pass (union_vector_clauses S f g) (union_vector_tests S f g) seen (union_vector_matches S f g) (union_vector_holds S f g items.tags items.references items.count a.there);
      tags = tags.1;
      references = references.1;
      count = tags.2;
    }

pub byte_at : (S : List ℕ) (i v : ℕ) → Num S i w8 ≡ Some v → slice_index S i ≡ v
byte_at S i v e =
    let inside : i + 1 ≤ length S = num_inside S i w8 v e in
    let first : drop i S ≡ get_or S i 0 ∷ drop (suc i) S = drop-cons S i 0 (omega arith) in
    let is : number S i w8 ≡ v = sym (num_value S i w8 v e) in
    sym (ap (λ bytes. from_le_bytes w8 (take 1 bytes)) first) ∙ is
