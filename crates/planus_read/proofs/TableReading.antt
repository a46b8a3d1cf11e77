-- An encoded table is read with its fields.
use Rattle.std.proofs.Common.{◌≡◌, ℕ, ◌+◌, ◌-◌, ◌*◌, ◌≤◌, ◌<◌, ◌==◌, Bool, true, false, max, List}
use Rattle.std.proofs.Common.{[], ◌∷◌, length, take, drop, refl, sym, ap, subst, ◌∙◌, arith, Option}
use Rattle.std.proofs.Common.{Some, None, Result, Ok, Err, ◌≢◌, if◌then◌else◌, length-drop, ◌⊎◌}
use Rattle.std.proofs.Common.{inl, inr}
use Rattle.std.proofs.lemmas.List.{drop-drop, drop-take, take-take, take-append-drop}
use Rattle.std.proofs.lemmas.List.{length-take-le}
use Rattle.std.proofs.lemmas.Bool.Decides.{nat_tests}
use Rattle.std.specs.Int.{w8, w16, byte_len, from_le_bytes}
use Rattle.std.specs.Option.{unwrap_or}
use Rattle.planus_read.specs.Bytes.{Num, BytesStand}
use Rattle.planus_read.specs.Values.{Field, plain, reference, tags, values, field_at, slot_count}
use Rattle.planus_read.specs.Values.{vtable_size}
use Rattle.planus_read.specs.Stands.{FieldStands, SlotStands, TableStands}
use Rattle.planus_read.specs.Reading.{number, Leads, TableThere}
use Rattle.planus_read.specs.Tables.{Slot, table_object, table_start, table_slots, FieldAnswer}
use Rattle.planus_read.specs.Tables.{UnionAnswer, UnionVectorAnswer, UnionAbsent, BothSlots, tag_of}
use Rattle.planus_read.specs.TableReading.{SlotReads, HasFields, FieldRead, FieldsRead, HoldUnion}
use Rattle.planus_read.specs.TableReading.{UnionRead, UnionsRead, HoldUnionVector, UnionVectorRead}
use Rattle.planus_read.specs.TableReading.{UnionVectorsRead}
use Rattle.planus_read.specs.Located.{Required}
use Rattle.planus_read.specs.declared.errors.ErrorKind.{ErrorKind}
use Rattle.planus_read.specs.declared.table_reader.Table.{Table}
use Rattle.planus_read.proofs.ListItems.{num_of_bytes}
use Rattle.planus_read.proofs.SliceLaws.{bytes_in_slice}
use Rattle.planus_read.proofs.Reading.{num_inside, num_there, num_value}
use Rattle.planus_read.proofs.Moves.{field_moves}

found :
    (b : Bool) (x : Field) (rest : Option Field) (field : Field) (a n i : ℕ) → (b ≡ true → a ≡ i)
    → (rest ≡ Some field → i + 1 ≤ n) → (if b then Some x else rest) ≡ Some field
    → i + 1 ≤ max (a + 1) n
found true x rest field a n i here later e = let same : a ≡ i = here refl in omega arith
found false x rest field a n i here later e = let below : i + 1 ≤ n = later e in omega arith

same_slot : (a i : ℕ) → (a == i) ≡ true → a ≡ i
same_slot a i e = grind (arith, nat_tests)

pub slot_below :
    (entries : List (ℕ × Field)) (i : ℕ) (field : Field) → field_at entries i ≡ Some field
    → i + 1 ≤ slot_count entries
slot_below [] i field e = absurd (let f : None ≡ Some field = e in cc)
slot_below (entry ∷ entries) i field e =
    found (entry.0 == i) entry.1 (field_at entries i) field entry.0 (slot_count entries) i
    (same_slot entry.0 i) (slot_below entries i field) e

slots_length :
    (S : List ℕ) (t z : ℕ) → t + z ≤ length S → length (drop 4 (take z (drop t S))) ≡ z - 4
slots_length S t z h =
    let long : length (take z (drop t S)) ≡ z =
    length-take-le z (drop t S) (omega (arith, length-drop t S)) in
    length-drop 4 (take z (drop t S)) ∙ ap (λ n. n - 4) long

slot_bytes :
    (S : List ℕ) (t z j : ℕ) → 4 + j + 2 ≤ z
    → take 2 (drop j (drop 4 (take z (drop t S)))) ≡ take 2 (drop (t + 4 + j) S)
slot_bytes S t z j h =
    let m : ℕ = z - (4 + j) in
    let whole : z ≡ 4 + j + m = omega arith in
    let cut : drop (4 + j) (take z (drop t S)) ≡ take m (drop (4 + j) (drop t S)) =
    ap (λ n. drop (4 + j) (take n (drop t S))) whole ∙ drop-take (4 + j) m (drop t S) in
    ap (take 2) (drop-drop j 4 (take z (drop t S)) ∙ cut)
    ∙ take-take 2 m (drop (4 + j) (drop t S)) (omega arith)
    ∙ ap (take 2) (drop-drop (4 + j) t S ∙ ap (λ n. drop n S)
    (let e : t + (4 + j) ≡ t + 4 + j = omega arith in e))

slot_inside :
    (S : List ℕ) (t z i q : ℕ) → t + z ≤ length S → 2 * i + 6 ≤ z
    → Num S (t + 4 + 2 * i) w16 ≡ Some q → Slot (drop 4 (take z (drop t S))) i ≡ q
slot_inside S t z i q inside below e =
    let V : List ℕ = drop 4 (take z (drop t S)) in
    let fits : 2 * i + byte_len w16 ≤ length V = omega (arith, slots_length S t z inside) in
    let same : number V (2 * i) w16 ≡ number S (t + 4 + 2 * i) w16 =
    ap (from_le_bytes w16) (slot_bytes S t z (2 * i) (omega arith)) in
    ap (λ o. unwrap_or o 0) (num_there V (2 * i) w16 fits) ∙ same
    ∙ sym (num_value S (t + 4 + 2 * i) w16 q e)

none_or : (m : Option ℕ) (k n : ℕ) → ((q : ℕ) → m ≡ Some q → k ≤ n) → n < k → unwrap_or m 0 ≡ 0
none_or None k n h past = refl
none_or (Some q) k n h past = absurd (let l : k ≤ n = h q refl in omega arith)

slot_past :
    (S : List ℕ) (t z i : ℕ) → t + z ≤ length S → z < 2 * i + 6
    → Slot (drop 4 (take z (drop t S))) i ≡ 0
slot_past S t z i inside past =
    let V : List ℕ = drop 4 (take z (drop t S)) in
    none_or (Num V (2 * i) w16) (2 * i + byte_len w16) (length V) (num_inside V (2 * i) w16)
    (omega (arith, slots_length S t z inside))

slot_reads :
    (S : List ℕ) (k t z i : ℕ) (o : Option Field) → t + z ≤ length S → 2 * i + 6 ≤ z
    → SlotStands S k (t + 4 + 2 * i) o → SlotReads S k (Slot (drop 4 (take z (drop t S))) i) o
slot_reads S k t z i None inside below h = slot_inside S t z i 0 inside below h
slot_reads S k t z i (Some field) inside below h =
    let is : h.0 ≡ Slot (drop 4 (take z (drop t S))) i =
    sym (slot_inside S t z i h.0 inside below h.1) in
    subst (λ q. (4 ≤ q) × FieldStands S (k + q) field) is (h.2, h.3)

slot_absent :
    (S : List ℕ) (k t z i : ℕ) (o : Option Field) → t + z ≤ length S → z < 2 * i + 6
    → ((field : Field) → o ≡ Some field → 2 * i + 6 ≤ z)
    → SlotReads S k (Slot (drop 4 (take z (drop t S))) i) o
slot_absent S k t z i None inside past below = slot_past S t z i inside past
slot_absent S k t z i (Some field) inside past below = absurd
    (let l : 2 * i + 6 ≤ z = below field refl in omega arith)

below_or_past : (a b : ℕ) → (a ≤ b) ⊎ (b < a)
below_or_past a b = grind arith

any_slot :
    (S : List ℕ) (k : ℕ) (entries : List (ℕ × Field)) (h : TableStands S k entries) (i : ℕ)
    → (2 * i + 6 ≤ vtable_size entries) ⊎ (vtable_size entries < 2 * i + 6)
    → SlotReads S k (Slot (drop 4 (take (vtable_size entries) (drop h.vtable S))) i)
    (field_at entries i)
any_slot S k entries h i (inl below) =
    slot_reads S k h.vtable (vtable_size entries) i (field_at entries i) h.inside below
    (h.slots i below)
any_slot S k entries h i (inr past) =
    slot_absent S k h.vtable (vtable_size entries) i (field_at entries i) h.inside past
    (λ field e. let l : i + 1 ≤ slot_count entries = slot_below entries i field e in
    omega arith)

pub table_there :
    (S : List ℕ) (f k : ℕ) (entries : List (ℕ × Field)) → Leads S f k
    → (h : TableStands S k entries) → TableThere S f k h.vtable (vtable_size entries)
table_there S f k entries to h =
    record {
      reference = to;
      word = h.word;
      size_word = h.size;
      least = omega arith;
      even = omega arith;
      inside = h.inside;
    }

pub any_slot_reads :
    (S : List ℕ) (k : ℕ) (entries : List (ℕ × Field)) (h : TableStands S k entries) (i : ℕ)
    → SlotReads S k (Slot (drop 4 (take (vtable_size entries) (drop h.vtable S))) i)
    (field_at entries i)
any_slot_reads S k entries h i = any_slot S k entries h i
    (below_or_past (2 * i + 6) (vtable_size entries))

pub table_slot_bytes :
    (S : List ℕ) (k : ℕ) (entries : List (ℕ × Field)) (h : TableStands S k entries)
    → length (drop 4 (take (vtable_size entries) (drop h.vtable S))) ≡ 2 * slot_count entries
table_slot_bytes S k entries h =
    slots_length S h.vtable (vtable_size entries) h.inside
    ∙ (let same : 4 + 2 * slot_count entries - 4 ≡ 2 * slot_count entries = omega arith in same)

pub slot_reads_whole :
    (B : List ℕ) (start k q : ℕ) (o : Option Field) → start ≤ length B
    → SlotReads (drop start B) k q o → SlotReads B (start + k) q o
slot_reads_whole B start k q None inside h = h
slot_reads_whole B start k q (Some field) inside h = (
  h.0,
  subst (λ l. FieldStands l (start + k + q) field) (take-append-drop start B)
      (field_moves (take start B) (drop start B) (k + q) (start + k + q) field
      (rw (length-take-le start B inside) (omega arith)) h.1),
)

last_used :
    (b : Bool) (x : Field) (rest : Option Field) (a n i : ℕ) → (b ≡ false → a ≡ i → ⊥)
    → max (a + 1) n ≡ i + 1 → (n ≡ i + 1 → rest ≡ None → ⊥) → (if b then Some x else rest) ≡ None
    → ⊥
last_used true x rest a n i other most later e = let f : Some x ≡ None = e in cc
last_used false x rest a n i other most later e = later (by_cases (below_or_past (i + 1) n)) e
  where
    by_cases : (i + 1 ≤ n) ⊎ (n < i + 1) → n ≡ i + 1
    by_cases (inl l) = omega (arith, most)
    by_cases (inr l) = absurd (other refl (omega (arith, most)))

other_slot : (a i : ℕ) → (a == i) ≡ false → a ≡ i → ⊥
other_slot a i e = grind (arith, nat_tests)

no_last :
    (entries : List (ℕ × Field)) (i : ℕ) → slot_count entries ≡ i + 1 → field_at entries i ≡ None
    → ⊥
no_last [] i e h = absurd (omega arith)
no_last (entry ∷ entries) i e h =
    last_used (entry.0 == i) entry.1 (field_at entries i) entry.0 (slot_count entries) i
    (other_slot entry.0 i) e (no_last entries i) h

here_in :
    {T : Type 0} (reads : List ℕ → ℕ → ℕ → Result T ErrorKind → Type 0) (B : List ℕ) (k : ℕ)
    (entries : List (ℕ × Field)) (table : Table)
    → HasFields B k entries table → (q : ℕ) (r : Result T ErrorKind)
    → reads (table_object table) (table_start table) q r → reads (drop k B) k q r
here_in reads B k entries table h q r it =
    subst (λ s. reads (drop k B) s q r) h.begin
    (subst (λ o. reads o (table_start table) q r) h.object it)

required_of :
    {T : Type 0} (answers others : Result (Option T) ErrorKind → Type 0)
    → ((r : Result (Option T) ErrorKind) → answers r → others r) → (r : Result T ErrorKind)
    → Required answers r → Required others r
required_of answers others step (Ok x) h = step (Ok (Some x)) h
required_of answers others step (Err e) (inl h) = inl (step (Err e) h)
required_of answers others step (Err e) (inr h) = inr (step (Ok None) h.0, h.1)

field_read :
    {T : Type 0} (reads : List ℕ → ℕ → ℕ → Result T ErrorKind → Type 0) (B : List ℕ) (k : ℕ)
    (entries : List (ℕ × Field)) (table : Table)
    → HasFields B k entries table → (i : ℕ) (o : Option Field)
    → SlotReads B k (Slot (table_slots table) i) o → (r : Result (Option T) ErrorKind)
    → FieldAnswer reads table i r → FieldRead reads B k o r
field_read reads B k entries table h i None slot (Ok None) it = refl
field_read reads B k entries table h i None slot (Ok (Some x)) it = absurd (it.0 slot)
field_read reads B k entries table h i None slot (Err e) it = absurd (it.0 slot)
field_read reads B k entries table h i (Some field) slot (Ok None) it =
    absurd (let low : 4 ≤ Slot (table_slots table) i = slot.0 in
    let zero : Slot (table_slots table) i ≡ 0 = it in omega arith)
field_read reads B k entries table h i (Some field) slot (Ok (Some x)) it = (
  Slot (table_slots table) i,
  slot.1,
  here_in reads B k entries table h (Slot (table_slots table) i) (Ok x) it.1,
)
field_read reads B k entries table h i (Some field) slot (Err e) it = (
  Slot (table_slots table) i,
  slot.1,
  here_in reads B k entries table h (Slot (table_slots table) i) (Err e) it.1,
)

pub fields_read :
    {T : Type 0} (reads : List ℕ → ℕ → ℕ → Result T ErrorKind → Type 0) → FieldsRead reads
fields_read {T} reads B k entries table h i = (
  all,
  required_of (FieldAnswer reads table i)
      (FieldRead reads B k (field_at entries i)) all,
)
  where
    all : (r : Result (Option T) ErrorKind) → FieldAnswer reads table i r
        → FieldRead reads B k (field_at entries i) r
    all = field_read reads B k entries table h i (field_at entries i) (h.slots i)

absent :
    (B : List ℕ) (k : ℕ) (entries : List (ℕ × Field)) (table : Table) → HasFields B k entries table
    → (i : ℕ) → field_at entries i ≡ None → Slot (table_slots table) i ≡ 0
absent B k entries table h i e = subst (SlotReads B k (Slot (table_slots table) i)) e (h.slots i)

present :
    (B : List ℕ) (k : ℕ) (entries : List (ℕ × Field)) (table : Table) → HasFields B k entries table
    → (i : ℕ) (field : Field) → field_at entries i ≡ Some field
    → SlotReads B k (Slot (table_slots table) i) (Some field)
present B k entries table h i field e = subst (SlotReads B k (Slot (table_slots table) i)) e
    (h.slots i)

both_fit :
    (B : List ℕ) (k : ℕ) (entries : List (ℕ × Field)) (table : Table) → HasFields B k entries table
    → (i : ℕ) (field : Field) → field_at entries (i + 1) ≡ Some field → BothSlots table i
both_fit B k entries table h i field e =
    let below : i + 1 + 1 ≤ slot_count entries = slot_below entries (i + 1) field e in
    omega (arith, h.slot_bytes)

no_half :
    (B : List ℕ) (k : ℕ) (entries : List (ℕ × Field)) (table : Table) → HasFields B k entries table
    → (i : ℕ) → field_at entries i ≡ None → 2 * i < length (table_slots table)
    → length (table_slots table) < 2 * i + 4 → ⊥
no_half B k entries table h i e more less =
    let last : slot_count entries ≡ i + 1 = omega (arith, h.slot_bytes) in no_last entries i last e

some_tag :
    (B : List ℕ) (k : ℕ) (entries : List (ℕ × Field)) (table : Table) → HasFields B k entries table
    → (i : ℕ) → Slot (table_slots table) i ≡ 0 → tag_of table i ≡ None → ⊥
some_tag B k entries table h i zero none =
    let inside : k + 4 ≤ length B = h.inside in
    let there : Num (drop k B) 0 w8 ≡ Some (number (drop k B) 0 w8) =
    num_there (drop k B) 0 w8 (omega (arith, length-drop k B)) in
    let here : Num (drop k B) 0 w8 ≡ None = ap (λ q. Num (drop k B) q w8) (sym zero)
    ∙ ap (λ o. Num o (Slot (table_slots table) i) w8) (sym h.object) ∙ none in
    let f : None ≡ Some (number (drop k B) 0 w8) = sym here ∙ there in cc

union_read :
    {T : Type 0} (reads : List ℕ → ℕ → ℕ → ℕ → Result T ErrorKind → Type 0) (B : List ℕ) (k : ℕ)
    (entries : List (ℕ × Field)) (table : Table)
    → HasFields B k entries table → (i : ℕ) (union : Option (ℕ × ℕ)) → HoldUnion entries i union
    → (r : Result (Option T) ErrorKind) → UnionAnswer reads table i r → UnionRead reads B k union r
union_read reads B k entries table h i None hold (Ok None) it = refl
union_read reads B k entries table h i None hold (Ok (Some x)) it = absurd
    (it.1.tag_slot (absent B k entries table h i hold.0))
union_read reads B k entries table h i None hold (Err e) (inl (inl it)) =
    absurd (some_tag B k entries table h i (absent B k entries table h i hold.0) it.1)
union_read reads B k entries table h i None hold (Err e) (inl (inr it)) = absurd
    (no_half B k entries table h i hold.0 it.0 it.1)
union_read reads B k entries table h i None hold (Err e) (inr it) = absurd
    (it.1.tag_slot (absent B k entries table h i hold.0))
union_read {T} reads B k entries table h i (Some union) hold r it = by_answer r it
  where
    tag_field : Field
    tag_field = plain hold.1.0

    tag_slot : SlotReads B k (Slot (table_slots table) i) (Some tag_field)
    tag_slot = present B k entries table h i tag_field hold.1.1

    value_slot : SlotReads B k (Slot (table_slots table) (i + 1)) (Some (reference union.1))
    value_slot = present B k entries table h (i + 1) (reference union.1) hold.2

    fit : BothSlots table i
    fit = both_fit B k entries table h i (reference union.1) hold.2

    tag_byte : tag_of table i ≡ Some union.0
    tag_byte =
        ap (λ o. Num o (Slot (table_slots table) i) w8) h.object
        ∙ num_of_bytes (drop k B) (Slot (table_slots table) i) w8 (union.0 ∷ []) refl
        (subst (BytesStand (drop k B) (Slot (table_slots table) i)) hold.1.2
        (bytes_in_slice B k (Slot (table_slots table) i) hold.1.0.bytes tag_slot.1))

    same_tag : (tag : ℕ) → tag_of table i ≡ Some tag → tag ≡ union.0
    same_tag tag e = let f : Some tag ≡ Some union.0 = sym e ∙ tag_byte in cc

    found : (tag : ℕ) (answer : Result T ErrorKind) → tag_of table i ≡ Some tag
        → reads (table_object table) (table_start table) tag
        (Slot (table_slots table) (i + 1)) answer
        → reads (drop k B) k union.0 (Slot (table_slots table) (i + 1)) answer
    found tag answer e it =
        here_in (λ o s q a. reads o s union.0 q a) B k entries table h
        (Slot (table_slots table) (i + 1)) answer
        (subst (λ t. reads (table_object table) (table_start table) t
        (Slot (table_slots table) (i + 1)) answer) (same_tag tag e) it)

    none_here : UnionAbsent table i → ⊥
    none_here (inl past) = let l : length (table_slots table) ≤ 2 * i = past in
        let f : 2 * i + 4 ≤ length (table_slots table) = fit in omega arith
    none_here (inr (b, (tag, e, inl zero))) = hold.0 (sym (same_tag tag e) ∙ zero)
    none_here (inr (b, (tag, e, inr (inl zero)))) = let low : 4 ≤ Slot (table_slots table) i =
        tag_slot.0 in let z : Slot (table_slots table) i ≡ 0 = zero in omega arith
    none_here (inr (b, (tag, e, inr (inr zero)))) = let low : 4 ≤ Slot (table_slots table) (i + 1) =
        value_slot.0 in let z : Slot (table_slots table) (i + 1) ≡ 0 = zero in omega arith

    by_answer : (r : Result (Option T) ErrorKind) → UnionAnswer reads table i r
        → UnionRead reads B k (Some union) r
    by_answer (Ok None) it = absurd (none_here it)
    by_answer (Ok (Some x)) it = (
      Slot (table_slots table) (i + 1),
      value_slot.1,
      found it.0 (Ok x) it.1.tag_byte it.2,
    )
    by_answer (Err e) (inl (inl it)) = absurd (let f : None ≡ Some union.0 = sym it.1 ∙ tag_byte in
        cc)
    by_answer (Err e) (inl (inr it)) = absurd (let l : length (table_slots table) < 2 * i + 4 =
        it.1 in let f : 2 * i + 4 ≤ length (table_slots table) = fit in omega arith)
    by_answer (Err e) (inr it) = (
      Slot (table_slots table) (i + 1),
      value_slot.1,
      found it.0 (Err e) it.1.tag_byte it.2,
    )

pub unions_read :
    {T : Type 0} (reads : List ℕ → ℕ → ℕ → ℕ → Result T ErrorKind → Type 0) → UnionsRead reads
unions_read {T} reads B k entries table h i union hold = (
  all,
  required_of
      (UnionAnswer reads table i) (UnionRead reads B k union) all,
)
  where
    all : (r : Result (Option T) ErrorKind) → UnionAnswer reads table i r
        → UnionRead reads B k union r
    all = union_read reads B k entries table h i union hold

union_vector_read :
    {T : Type 0} (reads : List ℕ → ℕ → ℕ → ℕ → Result T ErrorKind → Type 0) (B : List ℕ) (k : ℕ)
    (entries : List (ℕ × Field)) (table : Table)
    → HasFields B k entries table → (i : ℕ) (both : Option (ℕ × ℕ)) → HoldUnionVector entries i both
    → (r : Result (Option T) ErrorKind) → UnionVectorAnswer reads table i r
    → UnionVectorRead reads B k both r
union_vector_read reads B k entries table h i None hold (Ok None) it = refl
union_vector_read reads B k entries table h i None hold (Ok (Some x)) it = absurd
    (it.0.tags_slot (absent B k entries table h i hold.0))
union_vector_read reads B k entries table h i None hold (Err e) (inl (half, is)) = absurd
    (no_one half.1)
  where
    no_one : ((Slot (table_slots table) i ≡ 0) × (Slot (table_slots table) (i + 1) ≢ 0)) ⊎
        ((Slot (table_slots table) i ≢ 0) × (Slot (table_slots table) (i + 1) ≡ 0)) → ⊥
    no_one (inl one) = one.1 (absent B k entries table h (i + 1) hold.1)
    no_one (inr one) = one.0 (absent B k entries table h i hold.0)
union_vector_read reads B k entries table h i None hold (Err e) (inr it) = absurd
    (it.0.tags_slot (absent B k entries table h i hold.0))
union_vector_read {T} reads B k entries table h i (Some both) hold r it = by_answer r it
  where
    tags_slot : SlotReads B k (Slot (table_slots table) i) (Some (tags both.0))
    tags_slot = present B k entries table h i (tags both.0) hold.0

    values_slot : SlotReads B k (Slot (table_slots table) (i + 1)) (Some (values both.1))
    values_slot = present B k entries table h (i + 1) (values both.1) hold.1

    found : (answer : Result T ErrorKind)
        → reads (table_object table) (table_start table) (Slot (table_slots table) i)
        (Slot (table_slots table) (i + 1)) answer
        → reads (drop k B) k (Slot (table_slots table) i) (Slot (table_slots table) (i + 1)) answer
    found answer it =
        here_in (λ o s q a. reads o s (Slot (table_slots table) i) q a) B k entries table h
        (Slot (table_slots table) (i + 1)) answer it

    no_slot : (q : ℕ) → 4 ≤ q → q ≡ 0 → ⊥
    no_slot q low zero = omega arith

    no_one : ((Slot (table_slots table) i ≡ 0) × (Slot (table_slots table) (i + 1) ≢ 0)) ⊎
        ((Slot (table_slots table) i ≢ 0) × (Slot (table_slots table) (i + 1) ≡ 0)) → ⊥
    no_one (inl one) = no_slot (Slot (table_slots table) i) tags_slot.0 one.0
    no_one (inr one) = no_slot (Slot (table_slots table) (i + 1)) values_slot.0 one.1

    by_answer : (r : Result (Option T) ErrorKind) → UnionVectorAnswer reads table i r
        → UnionVectorRead reads B k (Some both) r
    by_answer (Ok None) (inl past) =
        absurd (let l : length (table_slots table) < 2 * i + 4 = past in
        let f : 2 * i + 4 ≤ length (table_slots table) =
        both_fit B k entries table h i (values both.1) hold.1 in omega arith)
    by_answer (Ok None) (inr it) = absurd (no_slot (Slot (table_slots table) i) tags_slot.0 it.1)
    by_answer (Ok (Some x)) it = (
      Slot (table_slots table) i,
      tags_slot.1,
      (Slot (table_slots table) (i + 1), values_slot.1, found (Ok x) it.1),
    )
    by_answer (Err e) (inl (half, is)) = absurd (no_one half.1)
    by_answer (Err e) (inr it) = (
      Slot (table_slots table) i,
      tags_slot.1,
      (Slot (table_slots table) (i + 1), values_slot.1, found (Err e) it.1),
    )

pub union_vectors_read :
    {T : Type 0} (reads : List ℕ → ℕ → ℕ → ℕ → Result T ErrorKind → Type 0) → UnionVectorsRead reads
union_vectors_read {T} reads B k entries table h i both hold = (
  all,
  required_of
      (UnionVectorAnswer reads table i) (UnionVectorRead reads B k both) all,
)
  where
    all : (r : Result (Option T) ErrorKind) → UnionVectorAnswer reads table i r
        → UnionVectorRead reads B k both r
    all = union_vector_read reads B k entries table h i both hold
