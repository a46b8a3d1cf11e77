-- The laws of `ReadingLaws`, for each kind of reading.
use Rattle.std.proofs.Common.{subst, ◌≡◌, ℕ, ◌+◌, ◌≤◌, ◌==◌, not, List, [], ◌∷◌, length, take, drop}
use Rattle.std.proofs.Common.{refl, sym, ap}
use Rattle.std.proofs.Common.{◌∙◌, Option, Some, None, Result, Ok, Err, inl, inr}
use Rattle.std.specs.Int.{Width, w8, cast_signed}
use Rattle.std.specs.Option.{option_map}
use Rattle.std.specs.Prelude.{⊤}
use Rattle.std.specs.Str.{valid_up_to, error_len}
use Rattle.std.specs.declared.str.Utf8Error.{Utf8Error}
use Rattle.planus_read.specs.declared.errors.ErrorKind.{ErrorKind}
use Rattle.planus_read.specs.declared.errors.ErrorKind.TheVariants.{InvalidOffset, InvalidLength}
use Rattle.planus_read.specs.declared.errors.ErrorKind.TheVariants.{UnionVectorLengthsMismatched}
use Rattle.planus_read.specs.declared.errors.ErrorKind.TheVariants.{InvalidVtableLength}
use Rattle.planus_read.specs.declared.errors.ErrorKind.TheVariants.{InvalidUtf8}
use Rattle.planus_read.specs.declared.errors.ErrorKind.TheVariants.{MissingNullTerminator}
use Rattle.planus_read.specs.Utf8.{IsUtf8Error}
use Rattle.planus_read.specs.Bytes.{Num}
use Rattle.planus_read.specs.Clauses.{Clause, AllHold, FirstBroken, Reading, Answer}
use Rattle.planus_read.specs.Reading.{number, number_clauses, target, count_at, items_at, vtable_at}
use Rattle.planus_read.specs.Reading.{vtable_size_at, VectorThere, Items, UnionItems, TableLayout}
use Rattle.planus_read.specs.Reading.{scalar_reading, number_reading, signed_reading, truth_reading}
use Rattle.planus_read.specs.Reading.{head_reading}
use Rattle.planus_read.specs.Reading.{text_reading, byte_list_reading, vector_reading}
use Rattle.planus_read.specs.Reading.{union_vector_reading, table_reading, vector_clauses}
use Rattle.planus_read.specs.Reading.{table_clauses, head_clauses, text_clauses}
use Rattle.planus_read.specs.Reading.{byte_list_clauses, union_vector_clauses, HeadThere}
use Rattle.planus_read.specs.Reading.{TableThere, plain_ref_clauses, plain_ref_reading}
use Rattle.planus_read.specs.ReadingLaws.{Decides, IsOne, IsAnswered, IsLawful, IsShown}
use Rattle.planus_read.proofs.Reading.{num_inside, num_there, HeadFacts, head_facts, head_there}
use Rattle.planus_read.proofs.Reading.{leads_there, leads_inside, leads_to}
use Rattle.planus_read.proofs.Reading.{text_there, text_holds, byte_list_there, byte_list_holds}
use Rattle.planus_read.proofs.Reading.{vector_there, vector_holds, union_vector_there}
use Rattle.planus_read.proofs.Reading.{union_vector_holds, table_there, table_holds}

pub broken :
    (clauses : List Clause) (e : ErrorKind) → FirstBroken clauses e → AllHold clauses → ⊥
broken [] e h all = h
broken (first ∷ rest) e (inl h) all = h.0 all.0
broken (first ∷ rest) e (inr h) all = broken rest e h.1 all.1

abbrev pub OneError : List Clause → Type 0
OneError [] = ⊤
OneError (first ∷ rest) = ((e other : ErrorKind) → first.errors e → first.errors other → e ≡ other)
    × OneError rest

same_broken :
    (clauses : List Clause) → OneError clauses → (e other : ErrorKind) → FirstBroken clauses e
    → FirstBroken clauses other → e ≡ other
same_broken [] one e other h k = absurd h
same_broken (first ∷ rest) one e other (inl h) (inl k) = one.0 e other h.1 k.1
same_broken (first ∷ rest) one e other (inl h) (inr k) = absurd (h.0 k.0)
same_broken (first ∷ rest) one e other (inr h) (inl k) = absurd (k.0 h.0)
same_broken (first ∷ rest) one e other (inr h) (inr k) = same_broken rest one.1 e other h.1 k.1

answered :
    {A : Type 0} (reading : Reading A) → Decides reading → IsOne reading → (x : A) → reading.There x
    → IsAnswered reading x
answered {A} reading decides one x there = record {
  there = there;
  alone = λ y h. one y x h there;
  only = by_answer;
}
  where
    by_answer : (r : Result A ErrorKind) → Answer reading r → r ≡ Ok x
    by_answer (Ok y) h = ap Ok (one y x h there)
    by_answer (Err e) h = absurd (broken reading.clauses e h (decides.1 (x, there)))

same :
    {A : Type 0} (reading : Reading A) → Decides reading → IsOne reading → OneError reading.clauses
    → (r other : Result A ErrorKind) → Answer reading r → Answer reading other → r ≡ other
same reading decides one errors (Ok x) (Ok y) h k = ap Ok (one x y h k)
same reading decides one errors (Ok x) (Err e) h k = absurd
    (broken reading.clauses e k (decides.1 (x, h)))
same reading decides one errors (Err e) (Ok x) h k = absurd
    (broken reading.clauses e h (decides.1 (x, k)))
same reading decides one errors (Err e) (Err other) h k = ap Err
    (same_broken reading.clauses errors e other h k)

pub lawful :
    {A : Type 0} (reading : Reading A) → OneError reading.clauses → Decides reading → IsOne reading
    → IsLawful reading
lawful reading errors decides one =
    record {
      decides = decides;
      one = one;
      nothing = λ e h x there. broken reading.clauses e h (decides.1 (x, there));
      answered = answered reading decides one;
      same = same reading decides one errors;
    }

pub is_shown :
    {A B : Type 0} (reading : Reading A) (Shows : A → B → Type 0) → IsLawful reading
    → IsShown reading Shows
is_shown reading Shows law x there (Ok shows) h = subst (λ y. Shows y shows)
    (law.one h.0 x h.1 there) h.2
is_shown reading Shows law x there (Err e) h = absurd (law.nothing e h x there)

pub this_error : (error e other : ErrorKind) → e ≡ error → other ≡ error → e ≡ other
this_error error e other h k = h ∙ sym k

same_fault : (a b : Utf8Error) → valid_up_to a ≡ valid_up_to b → error_len a ≡ error_len b → a ≡ b
same_fault a b v l =
    ap (λ n. let fault : Utf8Error = record { valid_up_to = n; error_len = error_len a } in fault) v
    ∙ ap (λ n. let fault : Utf8Error = record { valid_up_to = valid_up_to b; error_len = n } in
    fault) l

utf8_error :
    (bytes : List ℕ) (e other : ErrorKind) → IsUtf8Error bytes e → IsUtf8Error bytes other
    → e ≡ other
utf8_error bytes (InvalidUtf8 a) (InvalidUtf8 b) h k =
    ap InvalidUtf8 (same_fault a b (h.valid_len ∙ sym k.valid_len) (h.fault_len ∙ sym k.fault_len))
utf8_error bytes (InvalidUtf8 a) _ h k = absurd k
utf8_error bytes _ other h k = absurd h

number_errors : (S : List ℕ) (f : ℕ) (width : Width) → OneError (number_clauses S f width)
number_errors S f width = (this_error InvalidOffset, tt)

head_errors : (S : List ℕ) (f : ℕ) → OneError (head_clauses S f [])
head_errors S f = let offset = this_error InvalidOffset in (offset, (offset, (offset, tt)))

text_errors : (S : List ℕ) (f : ℕ) → OneError (text_clauses S f)
text_errors S f =
    let offset = this_error InvalidOffset in
    let bytes = utf8_error (take (count_at S f) (drop (items_at S f) S)) in
    (offset, (offset, (offset, (this_error MissingNullTerminator, (bytes, tt)))))

byte_list_errors : (S : List ℕ) (f : ℕ) → OneError (byte_list_clauses S f)
byte_list_errors S f =
    let offset = this_error InvalidOffset in
    (offset, (offset, (offset, (this_error InvalidLength, tt))))

vector_errors : (S : List ℕ) (f stride : ℕ) → OneError (vector_clauses S f stride)
vector_errors S f stride =
    let offset = this_error InvalidOffset in
    (offset, (offset, (offset, (this_error InvalidLength, tt))))

union_vector_errors : (S : List ℕ) (f g : ℕ) → OneError (union_vector_clauses S f g)
union_vector_errors S f g =
    let offset = this_error InvalidOffset in let length = this_error InvalidLength in
    let counts = this_error (UnionVectorLengthsMismatched (count_at S f) (count_at S g)) in
    (offset, (offset, (offset, (offset, (offset, (offset, (length, (length, (counts, tt)))))))))

table_errors : (S : List ℕ) (f : ℕ) → OneError (table_clauses S f)
table_errors S f =
    let offset = this_error InvalidOffset in
    let size = this_error (InvalidVtableLength (vtable_size_at S (target S f))) in
    (offset, (offset, (offset, (offset, (offset, (size, (this_error InvalidLength, tt)))))))

plain_ref_errors : (size : ℕ) (S : List ℕ) (f : ℕ) → OneError (plain_ref_clauses size S f)
plain_ref_errors size S f =
    let offset = this_error InvalidOffset in (offset, (offset, tt))

same_some : {A : Type 0} (m : Option A) (x y : A) → m ≡ Some x → m ≡ Some y → x ≡ y
same_some m x y h k = let e : Some x ≡ Some y = sym h ∙ k in cc

pub lawful_number : (S : List ℕ) (f : ℕ) (width : Width) → IsLawful (number_reading S f width)
lawful_number S f width = lawful (number_reading S f width) (number_errors S f width) decides one
  where
    decides : Decides (number_reading S f width)
    decides = (
      (λ h. (number S f width, num_there S f width h.0)),
      λ n. (num_inside S f width n.0 n.1, tt),
    )

    one : IsOne (number_reading S f width)
    one x y h k = same_some (Num S f width) x y h k

mapped_there :
    {A : Type 0} (g : ℕ → A) (m : Option ℕ) (x : A) → option_map g m ≡ Some x
    → (n : ℕ) × (m ≡ Some n)
mapped_there g None x h = absurd (let f : None ≡ Some x = h in cc)
mapped_there g (Some n) x h = (n, refl)

abbrev pub mapped_reading :
    {A : Type 0} → (ℕ → A) → List ℕ → ℕ → Width → Reading A
mapped_reading g S f width =
    scalar_reading width (λ S f x. option_map g (Num S f width) ≡ Some x) S f

lawful_mapped :
    {A : Type 0} (g : ℕ → A) (S : List ℕ) (f : ℕ) (width : Width)
    → IsLawful (mapped_reading g S f width)
lawful_mapped {A} g S f width =
    lawful (mapped_reading g S f width) (number_errors S f width) decides one
  where
    decides : Decides (mapped_reading g S f width)
    decides = (
      (λ h. (g (number S f width), ap (option_map g) (num_there S f width h.0))),
      λ x.
          let n : (n : ℕ) × (Num S f width ≡ Some n) = mapped_there g (Num S f width) x.0 x.1 in
          (num_inside S f width n.0 n.1, tt),
    )

    one : IsOne (mapped_reading g S f width)
    one x y h k = same_some (option_map g (Num S f width)) x y h k

pub lawful_signed : (S : List ℕ) (f : ℕ) (width : Width) → IsLawful (signed_reading S f width)
lawful_signed S f width = lawful_mapped (cast_signed width) S f width

pub lawful_truth : (S : List ℕ) (f : ℕ) → IsLawful (truth_reading S f)
lawful_truth S f = lawful_mapped (λ n. not (n == 0)) S f w8

items_of : ℕ → ℕ → Items
items_of position count = record { position = position; count = count }

same_items : (a b : Items) → a.position ≡ b.position → a.count ≡ b.count → a ≡ b
unfolding items_of
same_items a b p c = ap (λ n. items_of n a.count) p ∙ ap (items_of b.position) c

pub lawful_head : (S : List ℕ) (f : ℕ) → IsLawful (head_reading S f)
lawful_head S f = lawful (head_reading S f) (head_errors S f) decides one
  where
    there : (v : (items : Items) × HeadThere S f items.position items.count)
        → AllHold (head_clauses S f [])
    there v =
        let facts : HeadFacts S f v.0.position v.0.count =
        head_facts S f v.0.position v.0.count v.1 in
        (facts.reference, (facts.inside, (facts.word, tt)))

    decides : Decides (head_reading S f)
    decides = (
      (λ h. (record { position = items_at S f; count = count_at S f }, head_there S f h.0 h.1.1.0)),
      there,
    )

    one : IsOne (head_reading S f)
    one x y h k = let a : HeadFacts S f x.position x.count = head_facts S f x.position x.count h in
        let b : HeadFacts S f y.position y.count = head_facts S f y.position y.count k in
        same_items x y (a.position_is ∙ sym b.position_is) (a.count_is ∙ sym b.count_is)

pub lawful_text : (S : List ℕ) (f : ℕ) → IsLawful (text_reading S f)
lawful_text S f = lawful (text_reading S f) (text_errors S f) decides one
  where
    decides : Decides (text_reading S f)
    decides = (
      (λ h. (take (count_at S f) (drop (items_at S f) S), text_there S f h)),
      λ t. (text_holds S f t.0 t.1).0,
    )

    one : IsOne (text_reading S f)
    one x y h k = (text_holds S f x h).1 ∙ sym (text_holds S f y k).1

pub lawful_byte_list : (S : List ℕ) (f : ℕ) → IsLawful (byte_list_reading S f)
lawful_byte_list S f = lawful (byte_list_reading S f) (byte_list_errors S f) decides one
  where
    decides : Decides (byte_list_reading S f)
    decides = (
      (λ h. (take (count_at S f) (drop (items_at S f) S), byte_list_there S f h)),
      λ t. (byte_list_holds S f t.0 t.1).0,
    )

    one : IsOne (byte_list_reading S f)
    one x y h k = (byte_list_holds S f x h).1 ∙ sym (byte_list_holds S f y k).1

one_vector :
    (S : List ℕ) (f stride p c p' c' : ℕ) → VectorThere S f stride p c
    → VectorThere S f stride p' c' → (p ≡ p') × (c ≡ c')
one_vector S f stride p c p' c' h k =
    let a : AllHold (vector_clauses S f stride) × (p ≡ items_at S f) × (c ≡ count_at S f) =
    vector_holds S f stride p c h in
    let b : AllHold (vector_clauses S f stride) × (p' ≡ items_at S f) × (c' ≡ count_at S f) =
    vector_holds S f stride p' c' k in
    (a.1 ∙ sym b.1, a.2 ∙ sym b.2)

pub lawful_vector : (S : List ℕ) (f stride : ℕ) → IsLawful (vector_reading S f stride)
lawful_vector S f stride =
    lawful (vector_reading S f stride) (vector_errors S f stride) decides one
  where
    decides : Decides (vector_reading S f stride)
    decides = (
      (λ h. (record { position = items_at S f; count = count_at S f }, vector_there S f stride h)),
      λ v. (vector_holds S f stride v.0.position v.0.count v.1).0,
    )

    one : IsOne (vector_reading S f stride)
    one x y h k =
        let e : (x.position ≡ y.position) × (x.count ≡ y.count) =
        one_vector S f stride x.position x.count y.position y.count h k in
        same_items x y e.0 e.1

unions_of : ℕ → ℕ → ℕ → UnionItems
unions_of tags references count = record { tags = tags; references = references; count = count }

same_union_items :
    (a b : UnionItems) → a.tags ≡ b.tags → a.references ≡ b.references → a.count ≡ b.count → a ≡ b
unfolding unions_of
same_union_items a b t r c =
    ap (λ n. unions_of n a.references a.count) t ∙ ap (λ n. unions_of b.tags n a.count) r
    ∙ ap (unions_of b.tags b.references) c

pub lawful_union_vector : (S : List ℕ) (f g : ℕ) → IsLawful (union_vector_reading S f g)
lawful_union_vector S f g =
    lawful (union_vector_reading S f g) (union_vector_errors S f g) decides one
  where
    decides : Decides (union_vector_reading S f g)
    decides = (
      (λ h. (
        record { tags = items_at S f; references = items_at S g; count = count_at S f },
        union_vector_there S f g h,
      )),
      λ v. union_vector_holds S f g v.0.tags v.0.references v.0.count v.1,
    )

    one : IsOne (union_vector_reading S f g)
    one x y h k =
        let tags : (x.tags ≡ y.tags) × (x.count ≡ y.count) =
        one_vector S f 1 x.tags x.count y.tags y.count h.tags_there k.tags_there in
        let references : (x.references ≡ y.references) × (x.count ≡ y.count) =
        one_vector S g 4 x.references x.count y.references y.count h.references_there
        k.references_there in
        same_union_items x y tags.0 references.0 tags.1

layout_of : ℕ → ℕ → ℕ → TableLayout
layout_of object vtable size = record { object = object; vtable = vtable; size = size }

same_layout :
    (a b : TableLayout) → a.object ≡ b.object → a.vtable ≡ b.vtable → a.size ≡ b.size → a ≡ b
unfolding layout_of
same_layout a b o t z =
    ap (λ n. layout_of n a.vtable a.size) o ∙ ap (λ n. layout_of b.object n a.size) t
    ∙ ap (layout_of b.object b.vtable) z

read_layout : List ℕ → ℕ → TableLayout
read_layout S f = layout_of (target S f) (vtable_at S (target S f)) (vtable_size_at S (target S f))

pub lawful_table : (S : List ℕ) (f : ℕ) → IsLawful (table_reading S f)
unfolding read_layout layout_of
lawful_table S f = lawful (table_reading S f) (table_errors S f) decides one
  where
    decides : Decides (table_reading S f)
    decides = (
      (λ h. (read_layout S f, table_there S f h)),
      λ t. (table_holds S f t.0.object t.0.vtable t.0.size t.1).0,
    )

    is_read : (x : TableLayout) → TableThere S f x.object x.vtable x.size → x ≡ read_layout S f
    is_read x h = let facts = table_holds S f x.object x.vtable x.size h in
        same_layout x (read_layout S f) facts.1 facts.2 facts.3

    one : IsOne (table_reading S f)
    one x y h k = is_read x h ∙ sym (is_read y k)

pub lawful_plain_ref :
    (size : ℕ) (S : List ℕ) (f : ℕ) → IsLawful (plain_ref_reading size S f)
lawful_plain_ref size S f =
    lawful (plain_ref_reading size S f) (plain_ref_errors size S f) decides one
  where
    decides : Decides (plain_ref_reading size S f)
    decides = (
      (λ h. (target S f, (leads_there S f h.0, h.1.0))),
      λ x. (
        leads_inside S f x.0 x.1.0,
        (subst (λ n. n + size ≤ length S) (leads_to S f x.0 x.1.0) x.1.1, tt),
      ),
    )

    one : IsOne (plain_ref_reading size S f)
    one x y h k = leads_to S f x h.0 ∙ sym (leads_to S f y k.0)
