-- The fields of a table, declared one after another.
use Rattle.std.proofs.Common.{◌≡◌, ℕ, suc, ◌+◌, ◌≤◌, ◌<◌, List, [], ◌∷◌, ◌++◌, length, map, take, drop, refl, sym}
use Rattle.std.proofs.Common.{ap, ◌∙◌, subst, arith, Option, Some, None, Bool, true, false, Result, Ok, Err}
use Rattle.std.specs.Prelude.{slice_get, nat_lt, ◌==◌, ◌||◌, if◌then◌else◌}
use Rattle.std.specs.Int.{w16, to_le_bytes}
use Rattle.std.specs.List.{AllByRecursion, list_any}
use Rattle.std.specs.Option.{option_or, is_none}
use Rattle.std.proofs.lemmas.Bool.Decides.{nat_tests}
use Rattle.std.proofs.lemmas.List.{map-append, take_all}
use Rattle.planus_read.specs.Bytes.{BytesStand}
use Rattle.planus_read.specs.Values.{Field, field_at}
use Rattle.planus_read.specs.Aligned.{field_alignment}
use Rattle.planus_write.specs.Tables.{Declared, SlotsOnce, declared_of, field_size, offset_in}
use Rattle.planus_write.specs.TableWriting.{Writer, WasTold, slot_position, with_entry}
use Rattle.planus_write.proofs.ToldTables.{pair_length}
use Rattle.planus.specs.Steps.{FieldStep, content_of, bare_field}
use Rattle.planus.specs.declared.replaying.steps.Field as code
use Rattle.planus.specs.Slots.{slot_fault, rising_fault, place_fault, alignment_of, greatest_field}
use Rattle.planus.specs.Slots.{size_of, fields_size, greatest_size, size_fault}
use Rattle.planus.specs.Runs.{field_of, fields_of}
use Rattle.planus.specs.TableChecks.{content_fault, field_fault, fields_fault, table_fault}
use Rattle.planus_write.specs.Parts.{Named}
use Rattle.planus.specs.declared.replaying.named_steps.NamedSteps.{NamedSteps}
use Rattle.planus.specs.declared.replaying.prepared_field.PreparedField.{PreparedField}
use Rattle.planus.specs.inner.Prepared.{PreparesField}
use Rattle.planus.specs.inner.Names.{name_of, listed_from, IsReached}
use Rattle.planus.specs.inner.Replaying.{names, values_listed, name_fault, AreReached}
use Rattle.planus.specs.inner.Declaring.{slots_of, DeclaresTable}
use Rattle.planus.specs.declared.replaying.faults.Why.{Why}
use Rattle.planus.specs.declared.replaying.faults.Why.TheVariants.{SlotTooBig, SlotTwice, RisingAlignment}
use Rattle.planus.specs.declared.replaying.faults.Why.TheVariants.{TableTooBig}
use Rattle.planus.specs.declared.replaying.state.ReplayState.{ReplayState}
use Rattle.planus.specs.declared.replaying.written.Written.{Written}
use Rattle.planus.proofs.FieldFaults.{last_alignment, field_behind, no_more}
use Rattle.planus.proofs.Found.{around}
use Rattle.planus.proofs.TableFields.{fields_push, table_is}
use Rattle.planus.proofs.TableSizes.{size_around as fields_around}
use Rattle.planus.proofs.WrittenTables.{HasLayout, field_written, slot_free, AreWritten}
use Rattle.planus.proofs.WrittenTables.{fields_are_written, fields_fit}

pub reached_from : (bytes n : ℕ) (since : List (Option Named)) → ((i : ℕ) (d : Named) → slice_get since i ≡ Some (Some d) → IsReached bytes d)
    → AllByRecursion (λ one. IsReached bytes one.named) (listed_from n since)
reached_from bytes n [] reached = tt
reached_from bytes n (None ∷ since) reached = reached_from bytes (n + 1) since (λ i d e. reached (suc i) d e)
reached_from bytes n (Some name ∷ since) reached = (reached 0 name refl, reached_from bytes (n + 1) since (λ i d e. reached (suc i) d e))

pub values_reached : (replay : ReplayState) → AreReached replay → AllByRecursion (λ one. IsReached (length replay.builder.bytes) one.named) (values_listed replay)
values_reached replay reached = reached_from (length replay.builder.bytes) replay.first (names replay) reached

declared_push : (all : List (ℕ × Field)) (x : ℕ × Field) → declared_of (all ++ x ∷ []) ≡ declared_of all ++ record { slot = x.0; size = field_size x.1; alignment = field_alignment x.1 } ∷ []
declared_push [] x = refl
declared_push (entry ∷ all) x = ap (λ (more : List Declared). record { slot = entry.0; size = field_size entry.1; alignment = field_alignment entry.1 } ∷ more) (declared_push all x)

last_other : (all : List (ℕ × Field)) (x : ℕ × Field) (slot : ℕ) → field_at (all ++ x ∷ []) slot ≡ None → (x.0 == slot) ≡ false
last_other [] x slot e = by_test (x.0 == slot) e
  where
    by_test : (same : Bool) → (if same then Some x.1 else None) ≡ None → same ≡ false
    by_test true e = (cc)
    by_test false e = refl
last_other (entry ∷ all) x slot e = by_test (last_other all x slot) (entry.0 == slot) e
  where
    by_test : (field_at (all ++ x ∷ []) slot ≡ None → (x.0 == slot) ≡ false) → (same : Bool) → (if same then Some entry.1 else field_at (all ++ x ∷ []) slot) ≡ None → (x.0 == slot) ≡ false
    by_test further true e = (cc)
    by_test further false e = further e

unused_before : (all : List (ℕ × Field)) (x : ℕ × Field) (from : ℕ) → SlotsOnce (all ++ x ∷ []) → offset_in from (declared_of all) x.0 ≡ 0
unused_before [] x from once = refl
unused_before (entry ∷ all) x from once =
    let other : (x.0 == entry.0) ≡ false = last_other all x entry.0 once.0 in
    let back : (entry.0 == x.0) ≡ false = grind (arith, nat_tests, other) in
    rw back (unused_before all x (from + field_size entry.1) once.1)

any_slot : (fields : List code.Field) (slot : ℕ) → list_any (λ other. other == slot) (slots_of (map bare_field fields)) ≡ list_any (λ field. field.slot == slot) fields
any_slot [] slot = refl
any_slot (field ∷ fields) slot = ap (λ b. (field.slot == slot) || b) (any_slot fields slot)

module _ (fields : List code.Field) (slot : ℕ) (small : slot ≤ 255) where
  abbrev slots : List ℕ
  slots = slots_of (map bare_field fields)

  not_big : slot_fault slots slot ≡ (if list_any (λ other. other == slot) slots then Some SlotTwice else None)
  not_big =
      let test : nat_lt 255 slot ≡ false = grind (arith, nat_tests, small) in
      ap (λ b. if b then Some SlotTooBig else if list_any (λ other. other == slot) slots then Some SlotTwice else None) test

  pub slot_is_used : true ≡ list_any (λ field. field.slot == slot) fields → slot_fault slots slot ≡ Some SlotTwice
  slot_is_used used = not_big ∙ ap (λ b. if b then Some SlotTwice else None) (any_slot fields slot ∙ sym used)

  pub slot_is_free : false ≡ list_any (λ field. field.slot == slot) fields → slot_fault slots slot ≡ None
  slot_is_free free = not_big ∙ ap (λ b. if b then Some SlotTwice else None) (any_slot fields slot ∙ sym free)

pub is_none_of : {X : Type 0} (o : Option X) → is_none o ≡ true → o ≡ None
is_none_of None e = refl
is_none_of (Some x) e = (cc)

-- The fields were declared, if they fit a table together.
pub record Declares (replay : ReplayState) (fields : List (ℕ × FieldStep)) (fits : Bool) (writer : Writer) (before : ℕ) : Type 0 where
  pub all : List (ℕ × Field)
  pub are : fields_of (values_listed replay) [] greatest_field fields ≡ Some all
  pub clean : fields_fault (name_fault replay) [] greatest_field fields ≡ None
  pub told : fits ≡ true → WasTold writer (declared_of all)
  pub long : length writer.vtable ≡ 516
  pub last : before ≡ last_alignment greatest_field fields

pub prepared_here : (replay : ReplayState) (earlier : NamedSteps) (content : FieldStep) (answer : Result PreparedField Why) → earlier.first ≡ replay.first → earlier.offsets.now ≡ replay.offsets.items
    → PreparesField earlier.first (map name_of earlier.offsets.now) content answer → PreparesField replay.first (names replay) content answer
prepared_here replay earlier content answer first offsets h =
    subst (λ (os : List (Option Written)). PreparesField replay.first (map name_of os) content answer) offsets
    (subst (λ n. PreparesField n (map name_of earlier.offsets.now) content answer) first h)

module _ (replay : ReplayState) (all : List code.Field) (i : ℕ) (x : code.Field) (step : take (i + 1) all ≡ take i all ++ x ∷ []) (fits : Bool) (writer : Writer) (before : ℕ)
    (so_far : Declares replay (map bare_field (take i all)) fits writer before) where
  abbrev fields : List (ℕ × FieldStep)
  fields = map bare_field (take i all)

  parts : map bare_field all ≡ fields ++ bare_field x ∷ map bare_field (drop (i + 1) all)
  parts = sym (ap (map bare_field) (around all i x step)) ∙ map-append bare_field (take i all) (x ∷ drop (i + 1) all)

  pub refused : (why : Why) → field_fault (name_fault replay) (slots_of fields) (last_alignment greatest_field fields) (bare_field x) ≡ Some why → table_fault (name_fault replay) (map bare_field all) ≡ Some why
  refused why fault =
      ap (λ o. option_or o (size_fault (map bare_field all)))
      (ap (fields_fault (name_fault replay) [] greatest_field) parts
      ∙ field_behind (name_fault replay) [] greatest_field fields (bare_field x) (map bare_field (drop (i + 1) all)) why so_far.clean fault)

  pub slot_refused : (why : Why) → slot_fault (slots_of fields) x.slot ≡ Some why → table_fault (name_fault replay) (map bare_field all) ≡ Some why
  slot_refused why bad =
      refused why (ap (λ o. option_or o (option_or (content_fault (name_fault replay) (content_of x.value)) (rising_fault (last_alignment greatest_field fields) (alignment_of (content_of x.value))))) bad)

  pub content_refused : slot_fault (slots_of fields) x.slot ≡ None → (why : Why) → content_fault (name_fault replay) (content_of x.value) ≡ Some why → table_fault (name_fault replay) (map bare_field all) ≡ Some why
  content_refused good why bad =
      refused why (ap (λ o. option_or o (option_or (content_fault (name_fault replay) (content_of x.value)) (rising_fault (last_alignment greatest_field fields) (alignment_of (content_of x.value))))) good
      ∙ ap (λ o. option_or o (rising_fault (last_alignment greatest_field fields) (alignment_of (content_of x.value)))) bad)

  pub room_left : size_fault (map bare_field all) ≡ None → fields_size fields + size_of (content_of x.value) ≤ 65531
  room_left e = let fit = fields_fit (map bare_field all) e in let same = fields_around all i x step in omega (arith, fit, same)

module _ (replay : ReplayState) (reached : AreReached replay) (fields : List (ℕ × FieldStep)) (fit : Bool) (writer : Writer) (before : ℕ) (so_far : Declares replay fields fit writer before)
    (x : ℕ × FieldStep) (field : Field) (slot_good : slot_fault (slots_of fields) x.0 ≡ None) (is : field_of (values_listed replay) x.1 ≡ Some field)
    (good : content_fault (name_fault replay) x.1 ≡ None) where
  size_known : HasLayout (length replay.builder.bytes) (alignment_of x.1) (size_of x.1) field
  size_known = field_written (λ one. IsReached (length replay.builder.bytes) one.named) (length replay.builder.bytes) (λ one there. there) (values_listed replay)
      (values_reached replay reached) x.1 field is

  pub alignment_is : field_alignment field ≡ alignment_of x.1
  alignment_is = size_known.1

  pub rises : before < field_alignment field → field_fault (name_fault replay) (slots_of fields) (last_alignment greatest_field fields) x ≡ Some RisingAlignment
  rises lt =
      let above : before < alignment_of x.1 = subst (λ a. before < a) alignment_is lt in
      let test : nat_lt before (alignment_of x.1) ≡ true = grind (arith, nat_tests, above) in
      let rising : rising_fault before (alignment_of x.1) ≡ Some RisingAlignment = ap (λ b. if b then Some RisingAlignment else None) test in
      ap (λ o. option_or o (option_or (content_fault (name_fault replay) x.1) (rising_fault (last_alignment greatest_field fields) (alignment_of x.1)))) slot_good
      ∙ ap (λ o. option_or o (rising_fault (last_alignment greatest_field fields) (alignment_of x.1))) good
      ∙ ap (λ n. rising_fault n (alignment_of x.1)) (sym so_far.last) ∙ rising

  module _ (low : field_alignment field ≤ before) where
    not_rising : rising_fault (last_alignment greatest_field fields) (alignment_of x.1) ≡ None
    not_rising =
        let below : alignment_of x.1 ≤ before = subst (λ a. a ≤ before) alignment_is low in
        let test : nat_lt before (alignment_of x.1) ≡ false = grind (arith, nat_tests, below) in
        ap (λ n. rising_fault n (alignment_of x.1)) (sym so_far.last) ∙ ap (λ b. if b then Some RisingAlignment else None) test

    free : place_fault (slots_of fields) (last_alignment greatest_field fields) x ≡ None
    free = ap (λ o. option_or o (rising_fault (last_alignment greatest_field fields) (alignment_of x.1))) slot_good ∙ not_rising

    more : fields_of (values_listed replay) [] greatest_field (fields ++ x ∷ []) ≡ Some (so_far.all ++ (x.0, field) ∷ [])
    more = fields_push (values_listed replay) [] greatest_field fields x so_far.all field so_far.are free is

    written : AreWritten (length replay.builder.bytes) (fields ++ x ∷ []) (so_far.all ++ (x.0, field) ∷ [])
    written = fields_are_written (λ one. IsReached (length replay.builder.bytes) one.named) (length replay.builder.bytes) (λ one there. there) (values_listed replay)
        (values_reached replay reached) (fields ++ x ∷ []) (so_far.all ++ (x.0, field) ∷ []) more

    before_written : AreWritten (length replay.builder.bytes) fields so_far.all
    before_written = fields_are_written (λ one. IsReached (length replay.builder.bytes) one.named) (length replay.builder.bytes) (λ one there. there) (values_listed replay)
        (values_reached replay reached) fields so_far.all so_far.are

    pub small : x.0 ≤ 255
    small = let below = (slot_free (slots_of fields) x.0 slot_good).0 in omega (arith, below)

    pub unused : fit ≡ true → BytesStand writer.vtable (slot_position x.0) (0 ∷ 0 ∷ [])
    unused fits =
        let long = so_far.long in let below = small in
        subst (λ n. BytesStand writer.vtable (slot_position x.0) (to_le_bytes w16 n)) (unused_before so_far.all (x.0, field) 4 written.once) ((so_far.told fits).slots x.0 (omega (arith, long, below)))

    pub small_enough : fit ≡ true → fields_size fields + size_of x.1 ≤ 65531 → writer.object_size + field_size field ≤ 65535
    small_enough fits room =
        let size = (so_far.told fits).object_size in let all = before_written.size in let same = size_known.2 in
        omega (arith, size, all, room, same)

    abbrev one : Declared
    one = record { slot = x.0; size = field_size field; alignment = field_alignment field }

    clean_on : fields_fault (name_fault replay) [] greatest_field (fields ++ x ∷ []) ≡ None
    clean_on =
        no_more (name_fault replay) [] greatest_field fields x so_far.clean
        (ap (λ o. option_or o (option_or (content_fault (name_fault replay) x.1) (rising_fault (last_alignment greatest_field fields) (alignment_of x.1)))) slot_good
        ∙ ap (λ o. option_or o (rising_fault (last_alignment greatest_field fields) (alignment_of x.1))) good ∙ not_rising)

    last_push : (n : ℕ) (xs : List (ℕ × FieldStep)) (y : ℕ × FieldStep) → last_alignment n (xs ++ y ∷ []) ≡ alignment_of y.1
    last_push n [] y = refl
    last_push n (z ∷ xs) y = last_push (alignment_of z.1) xs y

    pub declares : fit ≡ true → (after : Writer) → after ≡ with_entry one writer → ((declared : List Declared) → WasTold writer declared → WasTold after (declared ++ one ∷ []))
        → Declares replay (fields ++ x ∷ []) fit after (field_alignment field)
    declares fits after is_entered told = record {
      all = so_far.all ++ (x.0, field) ∷ [];
      are = more;
      clean = clean_on;
      told = λ _. subst (WasTold after) (sym (declared_push so_far.all (x.0, field))) (told (declared_of so_far.all) (so_far.told fits));
      long = ap (λ (w : Writer). length w.vtable) is_entered
          ∙ pair_length writer.vtable (to_le_bytes w16 writer.object_size) (slot_position x.0) refl (let long = so_far.long in let below = small in omega (arith, long, below)) ∙ so_far.long;
      last = alignment_is ∙ sym (last_push greatest_field fields x);
    }

    pub leaves : fit ≡ false → Declares replay (fields ++ x ∷ []) fit writer (field_alignment field)
    leaves large = record {
      all = so_far.all ++ (x.0, field) ∷ [];
      are = more;
      clean = clean_on;
      told = λ fits. absurd (let both : true ≡ false = sym fits ∙ large in (cc));
      long = so_far.long;
      last = alignment_is ∙ sym (last_push greatest_field fields x);
    }

pub declared_next : (replay : ReplayState) (all : List code.Field) (i : ℕ) (x : code.Field) → take (i + 1) all ≡ take i all ++ x ∷ [] → (fits : Bool) (writer : Writer) (before alignment : ℕ) → before ≡ alignment
    → Declares replay (map bare_field (take i all) ++ bare_field x ∷ []) fits writer alignment → Declares replay (map bare_field (take (i + 1) all)) fits writer before
declared_next replay all i x step fits writer before alignment same so_far =
    subst (λ n. Declares replay (map bare_field (take (i + 1) all)) fits writer n) (sym same)
    (subst (λ fields. Declares replay fields fits writer alignment) (sym (ap (map bare_field) step ∙ map-append bare_field (take i all) (x ∷ []))) so_far)

pub all_declared : (replay : ReplayState) (fields : List (ℕ × FieldStep)) (fits : Bool) (writer : Writer) (before : ℕ) → Declares replay fields fits writer before
    → fits ≡ is_none (size_fault fields) → fits ≡ true → DeclaresTable replay fields (Ok writer)
all_declared replay fields fits writer before so_far is good =
    let fit : size_fault fields ≡ None = is_none_of (size_fault fields) (sym is ∙ good) in
    (so_far.all, table_is (values_listed replay) fields so_far.all fit so_far.are, so_far.told good, ap (λ o. option_or o (size_fault fields)) so_far.clean ∙ fit)

pub too_big : (replay : ReplayState) (fields : List (ℕ × FieldStep)) (fits : Bool) (writer : Writer) (before : ℕ) → Declares replay fields fits writer before
    → fits ≡ is_none (size_fault fields) → fits ≡ false → DeclaresTable replay fields (Err TableTooBig)
too_big replay fields fits writer before so_far is large =
    ap (λ o. option_or o (size_fault fields)) so_far.clean ∙ is_large (nat_lt greatest_size (fields_size fields)) (sym is ∙ large)
  where
    is_large : (test : Bool) → is_none (if test then Some TableTooBig else None) ≡ false → (if test then Some TableTooBig else None) ≡ Some TableTooBig
    is_large true e = refl
    is_large false e = (cc)

pub at_the_end : (replay : ReplayState) (all : List code.Field) (i : ℕ) (fits : Bool) (writer : Writer) (before : ℕ) → length all ≤ i
    → Declares replay (map bare_field (take i all)) fits writer before → Declares replay (map bare_field all) fits writer before
at_the_end replay all i fits writer before behind so_far =
    subst (λ fields. Declares replay (map bare_field fields) fits writer before) (take_all i all behind) so_far
