-- A dump prints what readers return.
use Rattle.std.proofs.Common.{◌≡◌, ◌≢◌, ℕ, zero, suc, ◌+◌, ◌*◌, ◌<◌, ◌≤◌, List, [], ◌∷◌, length, refl, sym, ap, ◌∙◌, subst, arith, Bool, true, false, Option, Some, None, Result, Ok, Err, inl, inr}
use Rattle.std.specs.Prelude.{nat_lt, nat_le, ◌==◌, ◌⊎◌, not, ◌||◌, if◌then◌else◌}
use Rattle.std.specs.Option.{option_map}
use Rattle.std.specs.Fmt.{decimal, signed_decimal}
use Rattle.std.specs.Int.{Width, w8, byte_len, cast_signed}
use Rattle.std.proofs.lemmas.Bool.{leb-true, ltb-true, lt-ltb, eq-eqb, eqb-true, eqb-false}
use Rattle.std.proofs.lemmas.Bool.Decides.{nat_tests}
use Rattle.planus_read.specs.declared.errors.ErrorKind.{ErrorKind}
use Rattle.planus_read.specs.declared.errors.ErrorKind.TheVariants.{InvalidOffset, InvalidVtableLength}
use Rattle.planus_read.specs.declared.table_reader.Table.{Table}
use Rattle.planus_read.specs.Bytes.{Num}
use Rattle.planus_read.specs.Clauses.{Reading, AllHold, Answer}
use Rattle.planus_read.specs.Reading.{number, target, count_at, items_at, vtable_at, vtable_size_at, number_reading, signed_reading, truth_reading, text_reading, byte_list_reading, vector_reading, union_vector_reading, table_reading, Items, UnionItems, TableLayout}
use Rattle.planus_read.specs.Tables.{table_object, table_slots, slot_of, tag_of, BothSlots, HalfVector, UnionAbsent, UnionThere, UnionBroken, UnionVectorSlots}
use Rattle.planus_read.proofs.Reading.{num_inside, num_value, num_there, text_there, text_holds, byte_list_there, byte_list_holds, vector_there, vector_holds, union_vector_there, union_vector_holds, table_there, table_holds}
use Rattle.planus_dump.specs.Lines.{quoted, bytes_text, truth_text}
use Rattle.planus_dump.specs.Tests.{Test, answered, number_test, text_tests, byte_list_tests, vector_tests, union_vector_tests, table_tests, content_at, fault_text}
use Rattle.planus_dump.specs.Answers.{lone_tag, some_tag, unsigned_at, signed_at, leaf_at, table_at, union_at, unions_at, some_of, tagged_union, SeenUnion}
use Rattle.planus_dump.specs.ReadingViews.{answer_seen, table_seen}
use Rattle.planus_dump.specs.AsRead.{SaysAsRead, items_in, unions_in, layout_in, ReadingsAreSaid, IsLone, UnionsAreSaid, NoUnionVector, UnionVectorsAreSaid}
use Rattle.planus_dump.specs.declared.values.Leaf.TheVariants.{Bool as LeafBool}
use Rattle.planus_dump.proofs.Matching.{Matches, all_pass, first_fails, passed_all, le_match, le_false, eq_false}
use Rattle.planus_dump.proofs.Answering.{text_matches, table_matches, union_vector_matches, union_at_both, union_absent, union_there, unions_both, half, whole}
use Rattle.planus_dump.proofs.Leaves.{byte_list_matches, vector_matches}

module _ {A B : Type 0} (reading : Reading A) (sees : A → B) (ts : List Test) (value : B) (matches : Matches reading.clauses ts)
    (holds : (x : A) → reading.There x → AllHold reading.clauses × (value ≡ sees x)) (there : AllHold reading.clauses → (x : A) × reading.There x) where
  by_answer : (r : Result A ErrorKind) → Answer reading r → answered ts value ≡ answer_seen sees r
  by_answer (Ok x) h = all_pass reading.clauses ts value matches (holds x h).0 ∙ ap Ok (holds x h).1
  by_answer (Err e) h = first_fails reading.clauses ts value e matches h

  by_value : (b : B) → answered ts value ≡ Ok b → (x : A) × reading.There x × (b ≡ sees x)
  by_value b e =
      let all = passed_all reading.clauses ts value b matches e in
      let x = there all.0 in
      (x.0, x.1, sym all.1 ∙ (holds x.0 x.1).1)

  by_fault : (text : List ℕ) → answered ts value ≡ Err text → AllHold reading.clauses → ⊥
  by_fault text e all = (let f : Ok value ≡ Err text = sym (all_pass reading.clauses ts value matches all) ∙ e in cc)

  pub says : SaysAsRead reading sees (answered ts value)
  says = record { answer = by_answer; value = by_value; fault = by_fault }

pub mapped : {A : Type 0} (g : ℕ → A) (m : Option ℕ) (x : A) → option_map g m ≡ Some x → (n : ℕ) × (m ≡ Some n) × (g n ≡ x)
mapped g None x e = cc
mapped g (Some n) x e = (n, refl, cc)

pub number_matches : (S : List ℕ) (f : ℕ) (width : Width) → Matches ((number_reading S f width).clauses) (number_test S f width ∷ [])
number_matches S f width = (le_match (f + byte_len width) (length S) InvalidOffset, tt)

unsigned_said : (S : List ℕ) (f : ℕ) (width : Width) → SaysAsRead (number_reading S f width) decimal (unsigned_at width S f)
unsigned_said S f width =
    says (number_reading S f width) decimal (number_test S f width ∷ []) (decimal (number S f width)) (number_matches S f width)
    (λ x h. ((num_inside S f width x h, tt), ap decimal (sym (num_value S f width x h))))
    (λ all. (number S f width, num_there S f width all.0))

signed_said : (S : List ℕ) (f : ℕ) (width : Width) → SaysAsRead (signed_reading S f width) signed_decimal (signed_at width S f)
signed_said S f width =
    says (signed_reading S f width) signed_decimal (number_test S f width ∷ []) (signed_decimal (cast_signed width (number S f width))) (number_matches S f width)
    (λ x h.
    let n = mapped (cast_signed width) (Num S f width) x h in
    ((num_inside S f width n.0 n.1, tt), ap signed_decimal (ap (cast_signed width) (sym (num_value S f width n.0 n.1)) ∙ n.2)))
    (λ all. (cast_signed width (number S f width), ap (option_map (cast_signed width)) (num_there S f width all.0)))

truth_said : (S : List ℕ) (f : ℕ) → SaysAsRead (truth_reading S f) truth_text (leaf_at LeafBool S f)
truth_said S f =
    says (truth_reading S f) truth_text (number_test S f w8 ∷ []) (truth_text (not (number S f w8 == 0))) (number_matches S f w8)
    (λ x h.
    let n = mapped (λ n. not (n == 0)) (Num S f w8) x h in
    ((num_inside S f w8 n.0 n.1, tt), ap truth_text (ap (λ n. not (n == 0)) (sym (num_value S f w8 n.0 n.1)) ∙ n.2)))
    (λ all. (not (number S f w8 == 0), ap (option_map (λ n. not (n == 0))) (num_there S f w8 all.0)))

same_items : (a b : Items) → a.position ≡ b.position → a.count ≡ b.count → a ≡ b
same_items a b p c =
    ap (λ n. let i : Items = record { position = n; count = a.count } in i) p ∙ ap (λ n. let i : Items = record { position = b.position; count = n } in i) c

same_unions : (a b : UnionItems) → a.tags ≡ b.tags → a.references ≡ b.references → a.count ≡ b.count → a ≡ b
same_unions a b t r c =
    ap (λ n. let i : UnionItems = record { tags = n; references = a.references; count = a.count } in i) t
    ∙ ap (λ n. let i : UnionItems = record { tags = b.tags; references = n; count = a.count } in i) r
    ∙ ap (λ n. let i : UnionItems = record { tags = b.tags; references = b.references; count = n } in i) c

same_layout : (a b : TableLayout) → a.object ≡ b.object → a.vtable ≡ b.vtable → a.size ≡ b.size → a ≡ b
same_layout a b o v s =
    ap (λ n. let i : TableLayout = record { object = n; vtable = a.vtable; size = a.size } in i) o
    ∙ ap (λ n. let i : TableLayout = record { object = b.object; vtable = n; size = a.size } in i) v
    ∙ ap (λ n. let i : TableLayout = record { object = b.object; vtable = b.vtable; size = n } in i) s

module _ (S : List ℕ) (f : ℕ) where
  vector_said : (stride : ℕ) → SaysAsRead (vector_reading S f stride) (items_in S) (answered (vector_tests S f stride) (items_in S (record { position = items_at S f; count = count_at S f })))
  vector_said stride =
      says (vector_reading S f stride) (items_in S) (vector_tests S f stride) (items_in S (record { position = items_at S f; count = count_at S f })) (vector_matches S f stride)
      (λ x h. let v = vector_holds S f stride x.position x.count h in (v.0, ap (items_in S) (same_items (record { position = items_at S f; count = count_at S f }) x (sym v.1) (sym v.2))))
      (λ all. (record { position = items_at S f; count = count_at S f }, vector_there S f stride all))

  union_vector_said : (g : ℕ)
      → SaysAsRead (union_vector_reading S f g) (unions_in S) (answered (union_vector_tests S f g) (unions_in S (record { tags = items_at S f; references = items_at S g; count = count_at S f })))
  union_vector_said g =
      says (union_vector_reading S f g) (unions_in S) (union_vector_tests S f g) (unions_in S (record { tags = items_at S f; references = items_at S g; count = count_at S f })) (union_vector_matches S f g)
      (λ x h.
      let t = vector_holds S f 1 x.tags x.count h.tags_there in
      let r = vector_holds S g 4 x.references x.count h.references_there in
      (union_vector_holds S f g x.tags x.references x.count h, ap (unions_in S) (same_unions (record { tags = items_at S f; references = items_at S g; count = count_at S f }) x (sym t.1) (sym r.1) (sym t.2))))
      (λ all. (record { tags = items_at S f; references = items_at S g; count = count_at S f }, union_vector_there S f g all))

  abbrev layout_there : TableLayout
  layout_there = record { object = target S f; vtable = vtable_at S (target S f); size = vtable_size_at S (target S f) }

  table_said : SaysAsRead (table_reading S f) (layout_in S) (table_at S f)
  unfolding table_at
  table_said =
      says (table_reading S f) (layout_in S) (table_tests S f) (layout_in S layout_there) (table_matches S f)
      (λ x h. let t = table_holds S f x.object x.vtable x.size h in (t.0, ap (layout_in S) (same_layout layout_there x (sym t.1) (sym t.2) (sym t.3))))
      (λ all. (layout_there, table_there S f all))

  pub readings_are_said : ReadingsAreSaid S f
  readings_are_said = record {
    unsigned = unsigned_said S f;
    signed = signed_said S f;
    truth = truth_said S f;
    text = says (text_reading S f) quoted (text_tests S f) (quoted (content_at S f)) (text_matches S f)
        (λ x h. let t = text_holds S f x h in (t.0, ap quoted (sym t.1))) (λ all. (content_at S f, text_there S f all));
    byte_list = says (byte_list_reading S f) bytes_text (byte_list_tests S f) (bytes_text (content_at S f)) (byte_list_matches S f)
        (λ x h. let t = byte_list_holds S f x h in (t.0, ap bytes_text (sym t.1))) (λ all. (content_at S f, byte_list_there S f all));
    vector = vector_said;
    union_vector = union_vector_said;
    table = table_said;
  }

zero_or : (n : ℕ) → (n ≡ 0) ⊎ (n ≢ 0)
zero_or zero = inl refl
zero_or (suc n) = inr (λ e. absurd (omega (arith, e)))

none_or_some : {A : Type 0} (r : Result (Option A) (List ℕ)) (x : A) → r ≡ Ok None → r ≡ Ok (Some x) → ⊥
none_or_some (Ok None) x e f = cc
none_or_some (Ok (Some y)) x e f = cc
none_or_some (Err text) x e f = cc

value_or_fault : {A : Type 0} (r : Result A (List ℕ)) (x : A) (text : List ℕ) → r ≡ Ok x → r ≡ Err text → ⊥
value_or_fault (Ok y) x text e f = cc
value_or_fault (Err other) x text e f = cc

one_value : {A : Type 0} (r : Result (Option A) (List ℕ)) (x y : A) → r ≡ Ok (Some x) → r ≡ Ok (Some y) → x ≡ y
one_value (Ok None) x y e f = cc
one_value (Ok (Some z)) x y e f = cc
one_value (Err text) x y e f = cc

one_fault : {A : Type 0} (r : Result A (List ℕ)) (a b : List ℕ) → r ≡ Err a → r ≡ Err b → a ≡ b
one_fault (Ok x) a b e f = cc
one_fault (Err text) a b e f = cc

module _ (table : Table) (i : ℕ) where
  abbrev slots : ℕ
  slots = length (table_slots table)

  abbrev OneOf : Type 0
  OneOf = UnionAbsent table i ⊎ ((tag : ℕ) × UnionThere table i tag) ⊎ ((e : ErrorKind) × UnionBroken table i e)

  by_tag : BothSlots table i → (tag : Option ℕ) → tag_of table i ≡ tag → OneOf
  by_tag both None is = inr (inr (InvalidOffset, inl (both, is, refl)))
  by_tag both (Some tag) is =
      elim (zero_or tag) as (λ _. OneOf) [
        | inl none ↦ inl (inr (both, (tag, is, inl none)))
        | inr some ↦ elim (zero_or (slot_of table i)) as (λ _. OneOf) [
          | inl none ↦ inl (inr (both, (tag, is, inr (inl none))))
          | inr first ↦ elim (zero_or (slot_of table (i + 1))) as (λ _. OneOf) [
            | inl none ↦ inl (inr (both, (tag, is, inr (inr none))))
            | inr second ↦ inr (inl (tag, record { both = both; tag_byte = is; tag_present = some; tag_slot = first; value_slot = second }))
          ]
        ]
      ]

  by_whole : 2 * i < slots → (short : Bool) → nat_lt slots (2 * i + 4) ≡ short → OneOf
  by_whole some true e = inr (inr (InvalidVtableLength (slots + 4), inr (some, ltb-true slots (2 * i + 4) e, refl)))
  by_whole some false e = by_tag (let both : 2 * i + 4 ≤ slots = grind (arith, nat_tests, e) in both) (tag_of table i) refl

  by_past : (past : Bool) → nat_le slots (2 * i) ≡ past → OneOf
  by_past true e = inl (inl (leb-true slots (2 * i) e))
  by_past false e = by_whole (let some : 2 * i < slots = grind (arith, nat_tests, e) in some) (nat_lt slots (2 * i + 4)) refl

  one_of : OneOf
  one_of = by_past (nat_le slots (2 * i)) refl

  union_broken : (e : ErrorKind) → UnionBroken table i e → union_at (table_seen table) i ≡ Err (fault_text e)
  union_broken e (inl (both, none, is)) = union_at_both table i both ∙ ap (tagged_union (table_seen table) i) none ∙ ap (λ k. Err (fault_text k)) (sym is)
  union_broken e (inr (some, short, is)) =
      let past : nat_le slots (2 * i) ≡ false = le_false slots (2 * i) some in
      let ends : nat_lt slots (2 * i + 4) ≡ true = lt-ltb slots (2 * i + 4) short in
      (let said : union_at (table_seen table) i ≡ Err (fault_text (InvalidVtableLength (slots + 4))) = rw (past, ends) refl in said) ∙ ap (λ k. Err (fault_text k)) (sym is)

  abbrev said : Result (Option SeenUnion) (List ℕ)
  said = union_at (table_seen table) i

  union_of_tag : ℕ → SeenUnion
  union_of_tag tag = record { tag = tag; offset = slot_of table (i + 1) }

  there_said : (tag : ℕ) → UnionThere table i tag → said ≡ Ok (Some (union_of_tag tag))
  unfolding union_of_tag
  there_said tag h = union_there table i tag h

  absent_back : said ≡ Ok None → UnionAbsent table i
  absent_back e = elim one_of as (λ _. UnionAbsent table i) [
    | inl absent ↦ absent
    | inr others ↦ elim others as (λ _. UnionAbsent table i) [
      | inl there ↦ absurd (none_or_some said (union_of_tag there.0) e (there_said there.0 there.1))
      | inr broken ↦ absurd (value_or_fault said None (fault_text broken.0) e (union_broken broken.0 broken.1))
    ]
  ]

  abbrev Is : SeenUnion → Type 0
  Is union = UnionThere table i union.tag × (union.offset ≡ slot_of table (i + 1))

  is_there : (tag : ℕ) → UnionThere table i tag → Is (union_of_tag tag)
  unfolding union_of_tag
  is_there tag h = (h, refl)

  there_back : (union : SeenUnion) → said ≡ Ok (Some union) → Is union
  there_back union e = elim one_of as (λ _. Is union) [
    | inl absent ↦ absurd (none_or_some said union (union_absent table i absent) e)
    | inr others ↦ elim others as (λ _. Is union) [
      | inl there ↦ subst Is (one_value said (union_of_tag there.0) union (there_said there.0 there.1) e) (is_there there.0 there.1)
      | inr broken ↦ absurd (value_or_fault said (Some union) (fault_text broken.0) e (union_broken broken.0 broken.1))
    ]
  ]

  abbrev Says : List ℕ → Type 0
  Says text = (e : ErrorKind) × UnionBroken table i e × (text ≡ fault_text e)

  broken_back : (text : List ℕ) → said ≡ Err text → Says text
  broken_back text e = elim one_of as (λ _. Says text) [
    | inl absent ↦ absurd (value_or_fault said None text (union_absent table i absent) e)
    | inr others ↦ elim others as (λ _. Says text) [
      | inl there ↦ absurd (value_or_fault said (Some (union_of_tag there.0)) text (there_said there.0 there.1) e)
      | inr broken ↦ (broken.0, broken.1, one_fault said text (fault_text broken.0) e (union_broken broken.0 broken.1))
    ]
  ]

  lone_back : (tag : ℕ) → lone_tag (table_seen table) i ≡ Some tag → IsLone table i tag
  lone_back tag e = by_slots (slot_of table i == 0) refl (slot_of table (i + 1) == 0) refl e
    where
      by_zero : (t : ℕ) → tag_of table i ≡ Some t → slot_of table i ≢ 0 → slot_of table (i + 1) ≡ 0 → (none : Bool) → (t == 0) ≡ none
          → (if none then None else Some t) ≡ Some tag → IsLone table i tag
      by_zero t byte slot next true zero_is e = cc
      by_zero t byte slot next false other e =
          let same : t ≡ tag = cc in
          record {
            tag_slot = slot;
            tag_byte = byte ∙ ap (λ n. Some n) same;
            tag_present = subst (λ n. n ≢ 0) same (eqb-false t 0 other);
            no_value = next;
          }

      by_byte : (o : Option ℕ) → tag_of table i ≡ o → slot_of table i ≢ 0 → slot_of table (i + 1) ≡ 0 → some_tag o ≡ Some tag → IsLone table i tag
      by_byte None byte slot next e = cc
      by_byte (Some t) byte slot next e = by_zero t byte slot next (t == 0) refl e

      by_slots : (none : Bool) → (slot_of table i == 0) ≡ none → (alone : Bool) → (slot_of table (i + 1) == 0) ≡ alone
          → (if none || not alone then None else some_tag (tag_of table i)) ≡ Some tag → IsLone table i tag
      by_slots true first alone second e = cc
      by_slots false first false second e = cc
      by_slots false first true second e = by_byte (tag_of table i) refl (eqb-false (slot_of table i) 0 first) (eqb-true (slot_of table (i + 1)) 0 second) e

  lone_is : (tag : ℕ) → IsLone table i tag → lone_tag (table_seen table) i ≡ Some tag
  lone_is tag h =
      let first : (slot_of table i == 0) ≡ false = eq_false (slot_of table i) 0 h.tag_slot in
      let second : (slot_of table (i + 1) == 0) ≡ true = eq-eqb (slot_of table (i + 1)) 0 h.no_value in
      let some : (tag == 0) ≡ false = eq_false tag 0 h.tag_present in
      let byte : some_tag (tag_of table i) ≡ Some tag = ap some_tag h.tag_byte ∙ rw some refl in
      rw (first, second) byte

  pub unions_are_said : UnionsAreSaid table i
  unions_are_said = record {
    absent = (absent_back, union_absent table i);
    there = λ union. (
      there_back union,
      λ h. union_there table i union.tag h.0 ∙ ap (λ n. Ok (Some (let u : SeenUnion = record { tag = union.tag; offset = n } in u))) (sym h.1),
    );
    broken = λ text. (broken_back text, λ h. union_broken h.0 h.1 ∙ ap Err (sym h.2));
    lone = λ tag. (lone_back tag, lone_is tag);
  }

  no_vector : NoUnionVector table i → unions_at (table_seen table) i ≡ Ok None
  no_vector (inl short) = let ends : nat_lt slots (2 * i + 4) ≡ true = lt-ltb slots (2 * i + 4) short in rw ends refl
  no_vector (inr (both, first, second)) =
      unions_both table i both
      ∙ (let f : (slot_of table i == 0) ≡ true = eq-eqb (slot_of table i) 0 first in let g : (slot_of table (i + 1) == 0) ≡ true = eq-eqb (slot_of table (i + 1)) 0 second in rw (f, g) refl)

  abbrev OneVector : Type 0
  OneVector = NoUnionVector table i ⊎ HalfVector table i ⊎ UnionVectorSlots table i

  by_slots : BothSlots table i → OneVector
  by_slots both = elim (zero_or (slot_of table i)) as (λ _. OneVector) [
    | inl no_tags ↦ elim (zero_or (slot_of table (i + 1))) as (λ _. OneVector) [
      | inl no_values ↦ inl (inr (both, no_tags, no_values))
      | inr values ↦ inr (inl (both, inl (no_tags, values)))
    ]
    | inr tags ↦ elim (zero_or (slot_of table (i + 1))) as (λ _. OneVector) [
      | inl no_values ↦ inr (inl (both, inr (tags, no_values)))
      | inr values ↦ inr (inr (record { both = both; tags_slot = tags; values_slot = values }))
    ]
  ]

  by_ends : (short : Bool) → nat_lt slots (2 * i + 4) ≡ short → OneVector
  by_ends true e = inl (inl (ltb-true slots (2 * i + 4) e))
  by_ends false e = by_slots (let both : 2 * i + 4 ≤ slots = grind (arith, nat_tests, e) in both)

  pub union_vectors_are_said : UnionVectorsAreSaid table i
  union_vectors_are_said = record {
    absent = no_vector;
    half = λ h. unions_both table i h.0 ∙ half (table_object table) (slot_of table i) (slot_of table (i + 1)) h.1;
    there = λ said slots e. unions_both table i slots.both ∙ whole (table_object table) (slot_of table i) (slot_of table (i + 1)) slots.tags_slot slots.values_slot ∙ ap some_of e;
    one_of = by_ends (nat_lt slots (2 * i + 4)) refl;
  }
