-- Readers return what the functions of their bytes say.
use Rattle.std.proofs.Common.{inl, inr, ◌≢◌, ◌≡◌, ℕ, ◌+◌, ◌*◌, ◌<◌, ◌≤◌, ◌%◌, List, [], ◌∷◌, ◌++◌, length, take, drop, get_or, refl, sym, ap, ◌∙◌, subst, arith, Bool, true, false, Option, Some, None, Result, Ok, Err, ℤ, pos, ◌-ℤ◌, ◌≤ℤ◌}
use Rattle.std.specs.Prelude.{nat_lt, ◌==◌, ◌||◌, ◌⊎◌, nat_le, if◌then◌else◌, unsigned_abs, codes}
use Rattle.std.specs.Option.{option_map}
use Rattle.std.specs.Int.{Width, w16, w32, byte_len, cast_signed}
use Rattle.std.specs.Borrow.{Bor}
use Rattle.std.proofs.lemmas.Bool.{leb-true, le-leb, eq-eqb}
use Rattle.std.proofs.lemmas.Bool.Decides.{nat_tests}
use Rattle.std.proofs.lemmas.List.{get_or-drop}
use Rattle.planus_read.specs.declared.errors.ErrorKind.{ErrorKind}
use Rattle.planus_read.specs.declared.errors.ErrorKind.TheVariants.{InvalidOffset, InvalidLength}
use Rattle.planus_read.specs.declared.errors.ErrorKind.TheVariants.{InvalidVtableLength, UnionVectorLengthsMismatched, MissingNullTerminator}
use Rattle.planus_read.specs.declared.table_reader.Table.{Table}
use Rattle.planus_read.specs.Bytes.{Num, Int}
use Rattle.planus_read.specs.Utf8.{utf8_clause}
use Rattle.std.specs.Str.{IsUtf8, is_utf8}
use Rattle.std.proofs.lemmas.Int.{ints}
use Rattle.std.proofs.lemmas.List.{length-drop}
use Rattle.planus_read.specs.Clauses.{Clause, clause, AllHold, FirstBroken, Answer, shown}
use Rattle.planus_read.specs.Slices.{ShowsBytes}
use Rattle.planus_read.specs.Reading.{union_vector_clauses, ZeroByte, object_clauses, number, target, count_at, items_at, signed_number, vtable_at, vtable_size_at, slots_of, Leads, TextThere, text_reading, text_clauses, head_clauses, TableThere, table_reading, table_clauses}
use Rattle.planus_read.specs.Tables.{ShowsTable, BothSlots, tag_of, slot_of, table_object, table_slots, UnionAbsent, UnionThere, UnionAnswer, HalfVector, UnionVectorSlots}
use Rattle.planus_read.specs.Places.{tagged_place_reading}
use Rattle.planus_read.specs.declared.place.TaggedPlace.{TaggedPlace}
use Rattle.planus_dump.specs.Lines.{quoted}
use Rattle.planus_dump.specs.Tests.{union_vector_tests, Test, test, is_zero_byte, answered, fault_text, head_tests, text_tests, table_tests, content_at}
use Rattle.planus_dump.specs.Answers.{Seen, table_at, union_at, tagged_union, unions_at, union_vector_by, union_vector_at, some_of}
use Rattle.planus_dump.specs.ReadingViews.{SeesUnion, answer_seen, table_seen}
use Rattle.planus_dump.proofs.Matching.{le_false, lt_false, eq_false, le_ℤ_match, Matches, all_pass, first_fails, le_match, eq_match, size_match, zero_match, utf8_match}

pub record NumberIs (S : List ℕ) (p : ℕ) (w : Width) (v : ℕ) : Type 0 where
  pub inside : p + byte_len w ≤ length S
  pub is : number S p w ≡ v

if_some : (b : Bool) (n v : ℕ) → (if b then Some n else None) ≡ Some v → (b ≡ true) × (n ≡ v)
if_some true n v h = (refl, cc)
if_some false n v h = cc

pub number_is : (S : List ℕ) (p : ℕ) (w : Width) (v : ℕ) → Num S p w ≡ Some v → NumberIs S p w v
number_is S p w v h =
    let both : (nat_le (p + byte_len w) (length S) ≡ true) × (number S p w ≡ v) = if_some (nat_le (p + byte_len w) (length S)) (number S p w) v h in
    record { inside = leb-true (p + byte_len w) (length S) both.0; is = both.1 }

pub record ZeroEnds (R content : List ℕ) : Type 0 where
  pub inside : length content < length R
  pub zero_byte : get_or R (length content) 0 ≡ 0
  pub front : take (length content) R ≡ content

pub zero_ends : (content R : List ℕ) → take (length (content ++ 0 ∷ [])) R ≡ content ++ 0 ∷ [] → ZeroEnds R content
zero_ends [] [] h = cc
zero_ends [] (r ∷ R) h = record { inside = omega arith; zero_byte = cc; front = refl }
zero_ends (c ∷ content) [] h = cc
zero_ends (c ∷ content) (r ∷ R) h =
    let first : r ≡ c = cc in
    let rest : take (length (content ++ 0 ∷ [])) R ≡ content ++ 0 ∷ [] = cc in
    let more : ZeroEnds R content = zero_ends content R rest in
    record { inside = omega (arith, more.inside); zero_byte = more.zero_byte; front = ap (λ x. x ∷ take (length content) R) first ∙ ap (λ xs. c ∷ xs) more.front }

pub head_matches : (S : List ℕ) (f : ℕ) (cs : List Clause) (ts : List Test) → Matches cs ts → Matches (head_clauses S f cs) (head_tests S f ts)
head_matches S f cs ts m = (le_match (f + 4) (length S) InvalidOffset, (le_match (target S f) (length S) InvalidOffset, (le_match (target S f + 4) (length S) InvalidOffset, m)))

pub record HeadIs (S : List ℕ) (f position count : ℕ) : Type 0 where
  pub inside : f + 4 ≤ length S
  pub leads : target S f ≡ position
  pub word : position + 4 ≤ length S
  pub counted : count_at S f ≡ count
  pub behind : items_at S f ≡ position + 4

pub head_is : (S : List ℕ) (f position count : ℕ) → Leads S f position → Num S position w32 ≡ Some count → HeadIs S f position count
head_is S f position count (n, e, at) word =
    let first : NumberIs S f w32 n = number_is S f w32 n e in
    let second : NumberIs S position w32 count = number_is S position w32 count word in
    let leads : target S f ≡ position = ap (λ k. f + k) first.is ∙ sym at in
    record {
      inside = first.inside;
      leads = leads;
      word = second.inside;
      counted = ap (λ k. number S k w32) leads ∙ second.is;
      behind = ap (λ k. k + 4) leads;
    }

pub head_holds : (S : List ℕ) (f position count : ℕ) (cs : List Clause) → HeadIs S f position count → AllHold cs → AllHold (head_clauses S f cs)
head_holds S f position count cs h rest = (h.inside, (subst (λ k. k ≤ length S) (sym h.leads) (omega (arith, h.word)), (subst (λ k. k + 4 ≤ length S) (sym h.leads) h.word, rest)))

text_rest : List ℕ → ℕ → List Clause
text_rest S f = clause (ZeroByte S (items_at S f) (count_at S f)) MissingNullTerminator ∷ utf8_clause (content_at S f) ∷ []

text_rest_tests : List ℕ → ℕ → List Test
text_rest_tests S f = test (is_zero_byte S (items_at S f + count_at S f)) MissingNullTerminator ∷ record { passes = is_utf8 (content_at S f); fault = codes "Invalid utf-8" } ∷ []

pub text_matches : (S : List ℕ) (f : ℕ) → Matches (text_clauses S f) (text_tests S f)
unfolding text_rest text_rest_tests
text_matches S f = head_matches S f (text_rest S f) (text_rest_tests S f) (zero_match S (items_at S f) (count_at S f), (utf8_match (content_at S f), tt))

zero_at : (S : List ℕ) (items count : ℕ) (content : List ℕ) → ZeroEnds (drop items S) content → count ≡ length content
    → ZeroByte S items count × (take count (drop items S) ≡ content)
zero_at S items count content z e =
    let inside : items + count < length S = omega (arith, z.inside, length-drop items S, e) in
    ((inside, sym (get_or-drop items S count 0) ∙ ap (λ k. get_or (drop items S) k 0) e ∙ z.zero_byte), ap (λ k. take k (drop items S)) e ∙ z.front)

pub text_holds : (S : List ℕ) (f : ℕ) (content : List ℕ) → TextThere S f content → AllHold (text_clauses S f) × (content_at S f ≡ content)
unfolding text_rest
text_holds S f content (position, leads, stands, utf8) =
    let head : HeadIs S f position (length content) = head_is S f position (length content) leads stands.0 in
    let ends : ZeroEnds (drop (items_at S f) S) content = subst (λ k. ZeroEnds (drop k S) content) (sym head.behind) (zero_ends content (drop (position + 4) S) stands.1) in
    let zero_byte : ZeroByte S (items_at S f) (count_at S f) × (content_at S f ≡ content) = zero_at S (items_at S f) (count_at S f) content ends head.counted in
    (head_holds S f position (length content) (text_rest S f) head (zero_byte.0, (subst IsUtf8 (sym zero_byte.1) utf8, tt)), zero_byte.1)

pub text_answer : (S : List ℕ) (f : ℕ) (r : Result (Bor (List ℕ)) ErrorKind) → Answer (shown ShowsBytes (text_reading S f)) r
    → answer_seen (λ text. quoted text.now) r ≡ answered (text_tests S f) (quoted (content_at S f))
text_answer S f (Ok text) (content, there, is) =
    let hold : AllHold (text_clauses S f) × (content_at S f ≡ content) = text_holds S f content there in
    let all : answered (text_tests S f) (quoted (content_at S f)) ≡ Ok (quoted (content_at S f)) = all_pass (text_clauses S f) (text_tests S f) (quoted (content_at S f)) (text_matches S f) hold.0 in
    let same : text.now ≡ content_at S f = is ∙ sym hold.1 in
    ap (λ xs. Ok (quoted xs)) same ∙ sym all
text_answer S f (Err e) h = sym (first_fails (text_clauses S f) (text_tests S f) (quoted (content_at S f)) e (text_matches S f) h)

pub table_matches : (S : List ℕ) (f : ℕ) → Matches (table_clauses S f) (table_tests S f)
table_matches S f = let o = target S f in let size = vtable_size_at S o in (
  le_match (f + 4) (length S) InvalidOffset,
  (
    le_match o (length S) InvalidOffset,
    (
      le_match (o + 4) (length S) InvalidOffset,
      (
        le_ℤ_match (signed_number S o) (pos o) InvalidOffset,
        (
          le_match (vtable_at S o + 2) (length S) InvalidOffset,
          (size_match size (InvalidVtableLength size), (le_match (vtable_at S o + size) (length S) InvalidLength, tt)),
        ),
      ),
    ),
  ),
)

signed_is : (m : Option ℕ) (z : ℤ) → option_map (cast_signed w32) m ≡ Some z → (n : ℕ) × (m ≡ Some n) × (cast_signed w32 n ≡ z)
signed_is None z e = cc
signed_is (Some n) z e = (n, refl, cc)

zero_from : (o t : ℕ) (r : ℤ) → r ≡ pos o -ℤ pos t → (r ≤ℤ pos o) × (unsigned_abs (pos o -ℤ r) ≡ t)
zero_from o t r e = (omega (arith, ints), omega (arith, ints))

record ObjectIs (S : List ℕ) (o vtable size : ℕ) : Type 0 where
  inside : o + 4 ≤ length S
  behind : signed_number S o ≤ℤ pos o
  leads : vtable_at S o ≡ vtable
  word : vtable + 2 ≤ length S
  sized : vtable_size_at S o ≡ size

object_is : (S : List ℕ) (o vtable size : ℕ) → Int S o ≡ Some (pos o -ℤ pos vtable) → Num S vtable w16 ≡ Some size → ObjectIs S o vtable size
object_is S o vtable size word size_word =
    let signed : (n : ℕ) × (Num S o w32 ≡ Some n) × (cast_signed w32 n ≡ pos o -ℤ pos vtable) = signed_is (Num S o w32) (pos o -ℤ pos vtable) word in
    let first : NumberIs S o w32 signed.0 = number_is S o w32 signed.0 signed.1 in
    let is : signed_number S o ≡ pos o -ℤ pos vtable = ap (cast_signed w32) first.is ∙ signed.2 in
    let both : (signed_number S o ≤ℤ pos o) × (vtable_at S o ≡ vtable) = zero_from o vtable (signed_number S o) is in
    let second : NumberIs S vtable w16 size = number_is S vtable w16 size size_word in
    record {
      inside = first.inside;
      behind = both.0;
      leads = both.1;
      word = second.inside;
      sized = ap (λ k. number S k w16) both.1 ∙ second.is;
    }

record TableIs (S : List ℕ) (f object vtable size : ℕ) : Type 0 where
  holds : AllHold (table_clauses S f)
  at : target S f ≡ object
  slots : slots_of S object ≡ drop 4 (take size (drop vtable S))

object_holds : (S : List ℕ) (o vtable size : ℕ) → ObjectIs S o vtable size → 4 ≤ size → size % 2 ≡ 0 → vtable + size ≤ length S → AllHold (object_clauses S o)
object_holds S o vtable size h least even inside = (
  h.inside,
  (
    h.behind,
    (
      subst (λ k. k + 2 ≤ length S) (sym h.leads) h.word,
      (subst (λ n. (4 ≤ n) × (n % 2 ≡ 0)) (sym h.sized) (least, even), (omega (arith, h.leads, h.sized, inside), tt)),
    ),
  ),
)

table_is : (S : List ℕ) (f object vtable size : ℕ) → TableThere S f object vtable size → TableIs S f object vtable size
table_is S f object vtable size h =
    let n = h.reference.0 in
    let first : NumberIs S f w32 n = number_is S f w32 n h.reference.1 in
    let at : target S f ≡ object = ap (λ k. f + k) first.is ∙ sym h.reference.2 in
    let o : ObjectIs S object vtable size = object_is S object vtable size h.word h.size_word in
    let object_hold : AllHold (object_clauses S (target S f)) = subst (λ k. AllHold (object_clauses S k)) (sym at) (object_holds S object vtable size o h.least h.even h.inside) in
    record {
      holds = (first.inside, (omega (arith, at, o.inside), object_hold));
      at = at;
      slots = ap (λ k. drop 4 (take (vtable_size_at S object) (drop k S))) o.leads ∙ ap (λ k. drop 4 (take k (drop vtable S))) o.sized;
    }

seen_same : (a b : Seen) → a.object ≡ b.object → a.slots ≡ b.slots → a ≡ b
seen_same a b e f = ap (λ xs. let s : Seen = record { object = xs; slots = a.slots } in s) e ∙ ap (λ xs. let s : Seen = record { object = b.object; slots = xs } in s) f

pub table_answer : (S : List ℕ) (start f : ℕ) (r : Result Table ErrorKind) → Answer (shown (ShowsTable S start) (table_reading S f)) r → answer_seen table_seen r ≡ table_at S f
unfolding table_at
table_answer S start f (Ok table) (layout, there, shows) =
    let t : TableIs S f layout.object layout.vtable layout.size = table_is S f layout.object layout.vtable layout.size there in
    let value : Seen = record { object = drop (target S f) S; slots = slots_of S (target S f) } in
    let same : table_seen table ≡ value = seen_same (table_seen table) value (shows.object_bytes ∙ ap (λ k. drop k S) (sym t.at)) (shows.slots ∙ sym t.slots ∙ ap (slots_of S) (sym t.at)) in
    let all : answered (table_tests S f) value ≡ Ok value = all_pass (table_clauses S f) (table_tests S f) value (table_matches S f) t.holds in
    ap Ok same ∙ sym all
table_answer S start f (Err e) h = sym (first_fails (table_clauses S f) (table_tests S f) (record { object = drop (target S f) S; slots = slots_of S (target S f) }) e (table_matches S f) h)

abbrev pub reads_tagged : List ℕ → ℕ → ℕ → ℕ → Result TaggedPlace ErrorKind → Type 0
reads_tagged S start tag f r = Answer (tagged_place_reading S start tag f) r

tag_zero : (a b c : Bool) → (a ≡ true) ⊎ (b ≡ true) ⊎ (c ≡ true) → (a || b || c) ≡ true
tag_zero true true true h = refl
tag_zero true true false h = refl
tag_zero true false true h = refl
tag_zero true false false h = refl
tag_zero false true true h = refl
tag_zero false true false h = refl
tag_zero false false true h = refl
tag_zero false false false h = grind arith

none_zero : (a b c : Bool) → a ≡ false → b ≡ false → c ≡ false → (a || b || c) ≡ false
none_zero false false false e f g = refl
none_zero false false true e f g = cc
none_zero false true c e f g = cc
none_zero true b c e f g = cc

pub union_at_both : (table : Table) (i : ℕ) → BothSlots table i → union_at (table_seen table) i ≡ tagged_union (table_seen table) i (tag_of table i)
union_at_both table i both =
    let history : nat_le (length (table_slots table)) (2 * i) ≡ false = le_false (length (table_slots table)) (2 * i) (omega (arith, both)) in
    let whole : nat_lt (length (table_slots table)) (2 * i + 4) ≡ false = lt_false (length (table_slots table)) (2 * i + 4) both in
    rw (history, whole) refl

absent_tag : (table : Table) (i tag : ℕ) → (tag ≡ 0) ⊎ (slot_of table i ≡ 0) ⊎ (slot_of table (i + 1) ≡ 0) → tagged_union (table_seen table) i (Some tag) ≡ Ok None
absent_tag table i tag h =
    let zero_one : (tag == 0 || slot_of table i == 0 || slot_of table (i + 1) == 0) ≡ true = tag_zero (tag == 0) (slot_of table i == 0) (slot_of table (i + 1) == 0) (zeros tag (slot_of table i) (slot_of table (i + 1)) h) in
    rw zero_one refl
  where
    zeros : (a b c : ℕ) → (a ≡ 0) ⊎ (b ≡ 0) ⊎ (c ≡ 0) → ((a == 0) ≡ true) ⊎ ((b == 0) ≡ true) ⊎ ((c == 0) ≡ true)
    zeros a b c h = grind (arith, nat_tests, eq-eqb a 0, eq-eqb b 0, eq-eqb c 0)

pub union_absent : (table : Table) (i : ℕ) → UnionAbsent table i → union_at (table_seen table) i ≡ Ok None
union_absent table i (inl history) = let e : nat_le (length (table_slots table)) (2 * i) ≡ true = le-leb (length (table_slots table)) (2 * i) history in rw e refl
union_absent table i (inr (both, (tag, is, zero))) = union_at_both table i both ∙ ap (tagged_union (table_seen table) i) is ∙ absent_tag table i tag zero

pub union_there : (table : Table) (i tag : ℕ) → UnionThere table i tag → union_at (table_seen table) i ≡ Ok (Some (record { tag = tag; offset = slot_of table (i + 1) }))
union_there table i tag h =
    let some : (tag == 0 || slot_of table i == 0 || slot_of table (i + 1) == 0) ≡ false
    = none_zero (tag == 0) (slot_of table i == 0) (slot_of table (i + 1) == 0) (eq_false tag 0 h.tag_present) (eq_false (slot_of table i) 0 h.tag_slot) (eq_false (slot_of table (i + 1)) 0 h.value_slot) in
    union_at_both table i h.both ∙ ap (tagged_union (table_seen table) i) h.tag_byte ∙ rw some refl

pub union_answer : (table : Table) (i : ℕ) (o : Option TaggedPlace) → UnionAnswer reads_tagged table i (Ok o) → SeesUnion (table_object table) (union_at (table_seen table) i) (Ok o)
union_answer table i None h = union_absent table i h
union_answer table i (Some tagged) (tag, there, shows) =
    (record { tag = tag; offset = slot_of table (i + 1) }, union_there table i tag there, record { tag = shows.tag_is; bytes = shows.place_is.bytes; offset = shows.place_is.offset })

union_vector_rest : List ℕ → ℕ → ℕ → List Clause
union_vector_rest S f g =
    clause (items_at S f + count_at S f ≤ length S) InvalidLength ∷ clause (items_at S g + count_at S g * 4 ≤ length S) InvalidLength
    ∷ clause (count_at S f ≡ count_at S g) (UnionVectorLengthsMismatched (count_at S f) (count_at S g)) ∷ []

union_vector_rest_tests : List ℕ → ℕ → ℕ → List Test
union_vector_rest_tests S f g =
    test (nat_le (items_at S f + count_at S f) (length S)) InvalidLength ∷ test (nat_le (items_at S g + count_at S g * 4) (length S)) InvalidLength
    ∷ test (count_at S f == count_at S g) (UnionVectorLengthsMismatched (count_at S f) (count_at S g)) ∷ []

pub union_vector_matches : (S : List ℕ) (f g : ℕ) → Matches (union_vector_clauses S f g) (union_vector_tests S f g)
unfolding union_vector_rest union_vector_rest_tests
union_vector_matches S f g =
    head_matches S f (head_clauses S g (union_vector_rest S f g)) (head_tests S g (union_vector_rest_tests S f g)) (head_matches S g (union_vector_rest S f g) (union_vector_rest_tests S f g) (
      le_match (items_at S f + count_at S f) (length S) InvalidLength,
      (
        le_match (items_at S g + count_at S g * 4) (length S) InvalidLength,
        (eq_match (count_at S f) (count_at S g) (UnionVectorLengthsMismatched (count_at S f) (count_at S g)), tt),
      ),
    ))

pub unions_both : (table : Table) (i : ℕ) → BothSlots table i → unions_at (table_seen table) i ≡ union_vector_by (table_object table) (slot_of table i) (slot_of table (i + 1))
unions_both table i both =
    let whole : nat_lt (length (table_slots table)) (2 * i + 4) ≡ false = lt_false (length (table_slots table)) (2 * i + 4) both in
    rw whole refl

pub half : (O : List ℕ) (f g : ℕ) → ((f ≡ 0) × (g ≢ 0)) ⊎ ((f ≢ 0) × (g ≡ 0)) → union_vector_by O f g ≡ Err (fault_text InvalidOffset)
half O f g (inl (a, b)) = let e : (f == 0) ≡ true = eq-eqb f 0 a in let h : (g == 0) ≡ false = eq_false g 0 b in rw (e, h) refl
half O f g (inr (a, b)) = let e : (f == 0) ≡ false = eq_false f 0 a in let h : (g == 0) ≡ true = eq-eqb g 0 b in rw (e, h) refl

pub whole : (O : List ℕ) (f g : ℕ) → f ≢ 0 → g ≢ 0 → union_vector_by O f g ≡ some_of (union_vector_at O f g)
whole O f g a b = let e : (f == 0) ≡ false = eq_false f 0 a in let h : (g == 0) ≡ false = eq_false g 0 b in rw (e, h) refl

pub unions_fault : (table : Table) (i : ℕ) (e : ErrorKind)
    → (HalfVector table i × (e ≡ InvalidOffset)) ⊎ (UnionVectorSlots table i × FirstBroken (union_vector_clauses (table_object table) (slot_of table i) (slot_of table (i + 1))) e)
    → unions_at (table_seen table) i ≡ Err (fault_text e)
unions_fault table i e (inl (halves, is)) = unions_both table i halves.0 ∙ half (table_object table) (slot_of table i) (slot_of table (i + 1)) halves.1 ∙ ap (λ k. Err (fault_text k)) (sym is)
unions_fault table i e (inr (slots, broken)) =
    let O = table_object table in let f = slot_of table i in let g = slot_of table (i + 1) in
    let fails : union_vector_at O f g ≡ Err (fault_text e) = first_fails (union_vector_clauses O f g) (union_vector_tests O f g) (record { tags = drop (items_at O f) O; references = drop (items_at O g) O; count = count_at O f }) e (union_vector_matches O f g) broken in
    unions_both table i slots.both ∙ whole O f g slots.tags_slot slots.values_slot ∙ ap some_of fails
