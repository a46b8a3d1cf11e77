-- The tables of steps can be written.
use Rattle.std.proofs.Common.{◌≡◌, ℕ, ◌<◌, ◌≤◌, List, [], ◌∷◌, ◌++◌, length, map, refl, sym}
use Rattle.std.proofs.Common.{ap, ◌∙◌, subst, arith, Option, Some, None, Bool, true, false}
use Rattle.std.specs.Prelude.{◌==◌, ◌||◌, ⊤, nat_lt, if◌then◌else◌}
use Rattle.std.specs.Int.{Width, byte_len, to_le_bytes, ◌∣◌}
use Rattle.std.specs.Option.{option_map}
use Rattle.std.specs.List.{AllByRecursion, list_any, IsDistinct}
use Rattle.std.proofs.lemmas.Bool.Decides.{nat_tests}
use Rattle.std.proofs.lemmas.List.Folds.{list_any-append}
use Rattle.std.proofs.lemmas.Nat.Gcd.{dvd_refl}
use Rattle.planus_read.specs.Values as value
use Rattle.planus_read.specs.Values.{Plain, Field, field_at, slot_count}
use Rattle.planus_read.specs.Aligned.{field_alignment}
use Rattle.planus_write.specs.Tables.{IsFieldAfter, IsTable, Falling, SlotsOnce, field_size, body_size}
use Rattle.planus.specs.Steps.{FieldStep, number_field, struct_field, ref_field, tags_field}
use Rattle.planus.specs.Steps.{values_field}
use Rattle.planus.specs.Slots.{slot_fault, rising_fault, place_fault, alignment_of}
use Rattle.planus.specs.Slots.{greatest_field, greatest_size, size_of, fields_size, size_fault}
use Rattle.planus.specs.inner.Names.{IsReached}
use Rattle.planus.specs.Runs.{Listed, tags_distance, references_distance, distance_at, value_at}
use Rattle.planus.specs.Runs.{field_width, fits_width, plain_field, field_of, fields_of}
use Rattle.planus.specs.Runs.{struct_width, struct_of, table_of}
use Rattle.planus.specs.declared.replaying.faults.Why.TheVariants.{SlotTooBig, SlotTwice, RisingAlignment}
use Rattle.planus.specs.declared.replaying.faults.Why.TheVariants.{TableTooBig}
use Rattle.planus.proofs.FieldFaults.{none_of}
use Rattle.planus.proofs.NamedKinds.{tags_reached, references_reached}
use Rattle.planus.proofs.Lists.{made_of}
use Rattle.planus.proofs.TableFields.{fields_made, table_made}
use Rattle.planus.proofs.Structs.{struct_made, width_known, alignment_known}
use Rattle.planus.proofs.WrittenValues.{width_power, width_positive, width_sized, struct_layout}
use Rattle.planus.proofs.WrittenValues.{distance_behind, value_behind}

abbrev pub HasLayout : ℕ → ℕ → ℕ → Field → Type 0
HasLayout before alignment size field = IsFieldAfter before field × (field_alignment field ≡ alignment) × (field_size field ≡ size)

abbrev HasSize : ℕ → ℕ → Field → Type 0
HasSize before size field = HasLayout before size size field

struct_written : (before alignment : ℕ) (content : List ℕ) (field : Field) → option_map value.plain (struct_of (struct_width alignment) content) ≡ Some field
    → HasLayout before alignment (length content) field
struct_written before alignment content field e =
    let made = made_of value.plain (struct_of (struct_width alignment) content) field e in
    let layout = struct_layout (struct_width alignment) content made.0 made.1 in
    let is = struct_made (struct_width alignment) content made.0 made.1 in
    let power = layout.power in
    subst (HasLayout before alignment (length content)) made.2 (
      (layout.positive, layout.multiple, (power.0, power.2)),
      ap (λ (item : Plain). item.alignment) (sym is.same) ∙ alignment_known alignment is.known is.is,
      ap (λ (item : Plain). length item.bytes) (sym is.same),
    )

number_written : (before size : ℕ) (width : Option Width) (n : ℕ) (field : Field) → ((w : Width) → width ≡ Some w → byte_len w ≡ size) → plain_field width n ≡ Some field
    → HasSize before size field
number_written before size None n field known e = (cc)
number_written before size (Some w) n field known e = by_test (fits_width w n) e
  where
    of : byte_len w ≡ size
    of = known w refl

    good : HasSize before size (value.plain (record { bytes = to_le_bytes w n; alignment = byte_len w }))
    good = (
      (
        subst (λ m. 0 < m) (sym (width_sized w n)) (width_positive w),
        subst (λ m. byte_len w ∣ m) (sym (width_sized w n)) (dvd_refl (byte_len w)),
        width_power w,
      ),
      of,
      width_sized w n ∙ of,
    )

    by_test : (fit : Bool) → (if fit then Some (value.plain (record { bytes = to_le_bytes w n; alignment = byte_len w })) else None) ≡ Some field → HasSize before size field
    by_test true e =
        let same : value.plain (record { bytes = to_le_bytes w n; alignment = byte_len w }) ≡ field = cc in
        subst (HasSize before size) same good
    by_test false e = (cc)

pub slot_free : (slots : List ℕ) (slot : ℕ) → slot_fault slots slot ≡ None → (slot < 256) × (list_any (λ other. other == slot) slots ≡ false)
slot_free slots slot e = by_size (nat_lt 255 slot) refl e
  where
    by_twice : (slot < 256) → (twice : Bool) → list_any (λ other. other == slot) slots ≡ twice → (if twice then Some SlotTwice else None) ≡ None
        → (slot < 256) × (list_any (λ other. other == slot) slots ≡ false)
    by_twice small true is e = (cc)
    by_twice small false is e = (small, is)

    by_size : (big : Bool) → nat_lt 255 slot ≡ big → (if big then Some SlotTooBig else if list_any (λ other. other == slot) slots then Some SlotTwice else None) ≡ None
        → (slot < 256) × (list_any (λ other. other == slot) slots ≡ false)
    by_size true is e = (cc)
    by_size false is e = by_twice (let small : slot < 256 = grind (arith, nat_tests, is) in small) (list_any (λ other. other == slot) slots) refl e

not_rising : (before alignment : ℕ) → rising_fault before alignment ≡ None → alignment ≤ before
not_rising before alignment e = by_test (nat_lt before alignment) refl e
  where
    by_test : (rises : Bool) → nat_lt before alignment ≡ rises → (if rises then Some RisingAlignment else None) ≡ None → alignment ≤ before
    by_test true is e = (cc)
    by_test false is e = (let le : alignment ≤ before = grind (arith, nat_tests, is) in le)

any_more : (xs : List ℕ) (slot x : ℕ) → list_any (λ other. other == slot) xs ≡ true → list_any (λ other. other == slot) (xs ++ x ∷ []) ≡ true
any_more xs slot x e = list_any-append (λ other. other == slot) xs (x ∷ []) ∙ ap (λ b. b || list_any (λ other. other == slot) (x ∷ [])) e

any_last : (xs : List ℕ) (slot : ℕ) → list_any (λ other. other == slot) (xs ++ slot ∷ []) ≡ true
any_last [] slot = let same : (slot == slot) ≡ true = grind (arith, nat_tests) in rw same refl
any_last (x ∷ xs) slot = in_rest (x == slot) (any_last xs slot)
  where
    in_rest : (first : Bool) → list_any (λ other. other == slot) (xs ++ slot ∷ []) ≡ true → (first || list_any (λ other. other == slot) (xs ++ slot ∷ [])) ≡ true
    in_rest true further = refl
    in_rest false further = further

abbrev slots_in : List (ℕ × Field) → List ℕ
slots_in all = map (λ entry. entry.0) all

abbrev IsNone : ℕ → List ℕ → Type 0
IsNone slot slots = AllByRecursion (λ other. (slot == other) ≡ false) slots

abbrev Headed : ℕ → List (ℕ × Field) → Type 0
Headed before [] = ⊤
Headed before (entry ∷ all) = field_alignment entry.1 ≤ before

record AreBehind (bytes : ℕ) (slots : List ℕ) (before : ℕ) (fields : List (ℕ × FieldStep)) (all : List (ℕ × Field)) : Type 0 where
  pub written : AllByRecursion (λ entry. IsFieldAfter bytes entry.1) all
  pub headed : Headed before all
  pub falling : Falling all
  pub apart : (slot : ℕ) → list_any (λ other. other == slot) slots ≡ true → IsNone slot (slots_in all)
  pub distinct : IsDistinct (λ a b. a == b) (slots_in all)
  pub below : AllByRecursion (λ slot. slot < 256) (slots_in all)
  pub sizes : body_size all ≡ fields_size fields

falls : (entry : ℕ × Field) (all : List (ℕ × Field)) → Headed (field_alignment entry.1) all → Falling all → Falling (entry ∷ all)
falls entry [] headed falling = tt
falls entry (second ∷ all) headed falling = (headed, falling)

others : (slots : List ℕ) (slot first : ℕ) → list_any (λ other. other == slot) slots ≡ true → list_any (λ other. other == first) slots ≡ false → (slot == first) ≡ false
others slots slot first there free = by_test (slot == first) refl
  where
    by_test : (same : Bool) → (slot == first) ≡ same → same ≡ false
    by_test true is =
        let n : slot ≡ first = grind (arith, nat_tests, is) in
        let both : list_any (λ other. other == first) slots ≡ true = subst (λ s. list_any (λ other. other == s) slots ≡ true) n there in
        sym both ∙ free
    by_test false is = refl

distinct_more : (x : ℕ) (xs : List ℕ) → IsNone x xs → IsDistinct (λ a b. a == b) xs → IsDistinct (λ a b. a == b) (x ∷ xs)
unfolding IsDistinct
distinct_more x xs none rest = (none, rest)

distinct_none : IsDistinct (λ (a : ℕ) (b : ℕ). a == b) []
unfolding IsDistinct
distinct_none = tt

module _ (P : Listed → Type 0) (bytes : ℕ) (reached : (one : Listed) → P one → IsReached bytes one.named) (listed : List Listed) (kept : AllByRecursion P listed) where
  pub field_written : (content : FieldStep) (field : Field) → field_of listed content ≡ Some field → HasLayout bytes (alignment_of content) (size_of content) field
  field_written (number_field width n) field e = number_written bytes width (field_width width) n field (width_known width) e
  field_written (struct_field alignment content) field e = struct_written bytes alignment content field e
  field_written (ref_field step) field e =
      let made = made_of value.reference (value_at listed step) field e in
      subst (HasSize bytes 4) made.2 (value_behind P bytes reached listed kept step made.0 made.1, refl, refl)
  field_written (tags_field step) field e =
      let made = made_of value.tags (distance_at tags_distance listed step) field e in
      subst (HasSize bytes 4) made.2 (distance_behind P bytes reached listed kept tags_distance (tags_reached bytes) step made.0 made.1, refl, refl)
  field_written (values_field step) field e =
      let made = made_of value.values (distance_at references_distance listed step) field e in
      subst (HasSize bytes 4) made.2 (distance_behind P bytes reached listed kept references_distance (references_reached bytes) step made.0 made.1, refl, refl)

  are_behind : (slots : List ℕ) (before : ℕ) (fields : List (ℕ × FieldStep)) (all : List (ℕ × Field)) → fields_of listed slots before fields ≡ Some all
      → AreBehind bytes slots before fields all
  are_behind slots before [] all e =
      let none : [] ≡ all = cc in
      subst (AreBehind bytes slots before []) none
      (record { written = tt; headed = tt; falling = tt; apart = λ slot there. tt; distinct = distinct_none; below = tt; sizes = refl })
  are_behind slots before (entry ∷ fields) all e =
      let made = fields_made entry.0 (place_fault slots before entry) (field_of listed entry.1) (fields_of listed (slots ++ entry.0 ∷ []) (alignment_of entry.1) fields) all e in
      let place = none_of (slot_fault slots entry.0) (rising_fault before (alignment_of entry.1)) made.0 in
      let free = slot_free slots entry.0 place.0 in
      let le : alignment_of entry.1 ≤ before = not_rising before (alignment_of entry.1) place.1 in
      let field = field_written entry.1 made.1 made.2 in
      let aligned : field_alignment made.1 ≡ alignment_of entry.1 = field.1 in
      let sized : field_size made.1 ≡ size_of entry.1 = field.2 in
      let rest : AreBehind bytes (slots ++ entry.0 ∷ []) (alignment_of entry.1) fields made.3
      = are_behind (slots ++ entry.0 ∷ []) (alignment_of entry.1) fields made.3 made.4 in
      let more : body_size made.3 ≡ fields_size fields = rest.sizes in
      subst (AreBehind bytes slots before (entry ∷ fields)) made.5
      (record {
        written = (field.0, rest.written);
        headed = omega (arith, aligned, le);
        falling = falls (entry.0, made.1) made.3 (subst (λ a. Headed a made.3) (sym aligned) rest.headed) rest.falling;
        apart = λ slot there. (others slots slot entry.0 there free.1, rest.apart slot (any_more slots slot entry.0 there));
        distinct = distinct_more entry.0 (slots_in made.3) (rest.apart entry.0 (any_last slots entry.0)) rest.distinct;
        below = (free.0, rest.below);
        sizes = omega (arith, sized, more);
      })

none_there : (all : List (ℕ × Field)) (slot : ℕ) → IsNone slot (slots_in all) → field_at all slot ≡ None
none_there [] slot none = refl
none_there (entry ∷ all) slot none =
    let other : (entry.0 == slot) ≡ false = let e = none.0 in grind (arith, nat_tests, e) in
    rw other (none_there all slot none.1)

slots_once : (all : List (ℕ × Field)) → IsDistinct (λ a b. a == b) (slots_in all) → SlotsOnce all
unfolding IsDistinct
slots_once [] distinct = tt
slots_once (entry ∷ all) distinct = (none_there all entry.0 distinct.0, slots_once all distinct.1)

few_slots : (all : List (ℕ × Field)) → AllByRecursion (λ slot. slot < 256) (slots_in all) → slot_count all ≤ 256
few_slots [] below = omega arith
few_slots (entry ∷ all) below =
    let rest = few_slots all below.1 in let first = below.0 in omega (arith, rest, first)

-- the fields of a table, whatever their size together
pub record AreWritten (bytes : ℕ) (fields : List (ℕ × FieldStep)) (all : List (ℕ × Field)) : Type 0 where
  pub written : AllByRecursion (λ entry. IsFieldAfter bytes entry.1) all
  pub falling : Falling all
  pub once : SlotsOnce all
  pub slots : slot_count all ≤ 256
  pub size : body_size all ≡ fields_size fields

pub fields_are_written : (P : Listed → Type 0) (bytes : ℕ) → ((one : Listed) → P one → IsReached bytes one.named) → (listed : List Listed) → AllByRecursion P listed
    → (fields : List (ℕ × FieldStep)) (all : List (ℕ × Field)) → fields_of listed [] greatest_field fields ≡ Some all → AreWritten bytes fields all
fields_are_written P bytes reached listed kept fields all e =
    let behind = are_behind P bytes reached listed kept [] greatest_field fields all e in
    record {
      written = behind.written;
      falling = behind.falling;
      once = slots_once all behind.distinct;
      slots = few_slots all behind.below;
      size = behind.sizes;
    }

pub fields_fit : (fields : List (ℕ × FieldStep)) → size_fault fields ≡ None → fields_size fields ≤ 65531
fields_fit fields e = by_test (nat_lt greatest_size (fields_size fields)) refl e
  where
    by_test : (large : Bool) → nat_lt greatest_size (fields_size fields) ≡ large → (if large then Some TableTooBig else None) ≡ None → fields_size fields ≤ 65531
    by_test true is e = (cc)
    by_test false is e = (let le : fields_size fields ≤ 65531 = grind (arith, nat_tests, is) in le)

pub tables_are_written : (P : Listed → Type 0) (bytes : ℕ) → ((one : Listed) → P one → IsReached bytes one.named) → (listed : List Listed) → AllByRecursion P listed
    → (fields : List (ℕ × FieldStep)) (all : List (ℕ × Field)) → table_of listed fields ≡ Some all → IsTable bytes all
tables_are_written P bytes reached listed kept fields all e =
    let made = table_made listed fields all e in
    let are = fields_are_written P bytes reached listed kept fields all made.1 in
    let slots = are.slots in
    let size = are.size in
    let fit = fields_fit fields made.0 in
    record {
      fields = are.written;
      falling = are.falling;
      once = are.once;
      vtable_fits = omega (arith, slots);
      object_fits = omega (arith, size, fit);
    }
