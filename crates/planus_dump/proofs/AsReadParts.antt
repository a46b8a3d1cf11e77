-- A dump prints what readers of floats, enums, structs and nested buffers return.
use Rattle.std.proofs.Common.{◌≡◌, ℕ, zero, suc, ℤ, ◌+◌, ◌*◌, ◌^◌, ◌<◌, ◌≤◌, List, [], ◌∷◌, ◌++◌, length, map, drop, take, refl, sym, ap, ◌∙◌, subst, arith, Bool, true, false, Option, Some, None, Result, Ok, Err, inl, inr, length-drop}
use Rattle.std.specs.Prelude.{nat_le, nat_eq, ◌==◌, ◌⊎◌, not, if◌then◌else◌, IsSome, String, from_bits, FitsSigned, slice_get}
use Rattle.std.specs.Option.{option_map, option_and_then}
use Rattle.std.specs.List.{AllByRecursion}
use Rattle.std.specs.Ordering.{int_eq}
use Rattle.std.specs.Fmt.{decimal, signed_decimal}
use Rattle.std.specs.Int.{Width, w8, w16, w32, w64, w128, byte_len, cast_signed, cast_unsigned, from_le_bytes}
use Rattle.std.specs.String.{string_bytes}
use Rattle.std.specs.declared.alloc.Global.{Global}
use Rattle.std.proofs.lemmas.Bool.{leb-true, le-leb, eq-eqb, eqb-true}
use Rattle.std.proofs.lemmas.Bool.Decides.{nat_tests, same_from_decides, Decides-int_eq}
use Rattle.std.proofs.lemmas.Int.{of_z-to_z, to_z-of_z}
use Rattle.std.proofs.lemmas.List.{drop-drop}
use mir.Val.{bits as bits_in}
use lib.Ieee.{Format, binary32, binary64}
use Rattle.planus_read.specs.declared.errors.ErrorKind.{ErrorKind}
use Rattle.planus_read.specs.declared.errors.ErrorKind.TheVariants.{InvalidOffset}
use Rattle.planus_read.specs.Bytes.{Num}
use Rattle.planus_read.specs.Clauses.{clause, Answer, FirstBroken}
use Rattle.planus_read.specs.Plain.{IsLayout, NumberFits, plain_reading}
use Rattle.planus_read.specs.Shapes.{f32_shape, f64_shape}
use Rattle.planus_read.specs.Enums.{variant_in, Numbered, unsigned_enum, signed_enum}
use Rattle.planus_read.specs.lemmas.NumberLaws.{AreBytes}
use Rattle.planus_read.specs.Reading.{number, number_clause, byte_list_reading, byte_list_clauses}
use Rattle.planus_read.proofs.Reading.{num_inside, num_value, num_there, byte_list_holds}
use Rattle.planus_dump.specs.declared.values.Leaf.TheVariants.{Number as LeafNumber}
use Rattle.planus_dump.specs.Lines.{truth_text, field_path, item_path, struct_line, names_text}
use Rattle.planus_dump.specs.Tests.{Test, answered, number_test, byte_list_tests, content_at, fault_text}
use Rattle.planus_read.specs.Reading.{plain_ref_clauses}
use Rattle.planus_dump.specs.Answers.{bits_at, unsigned_at, signed_at, leaf_at, table_at, Seen}
use Rattle.planus_dump.specs.Events.{line, TableEvents, fault_event, answer_event, float_event, fixed_events, fixed_size, values_events, counted_events, struct_fields_events, struct_events, structs, value_events, led_events, enum_events, enum_at, named, names_in, number_width, place_events, nested_events, buffer_events}
use Rattle.planus_dump.specs.AsRead.{SaysAsRead, layout_in, as_float, FloatsAreSaid, StructsAreSaid, LedStructsAreSaid, fields_at, BuffersAreSaid, IsUnsigned, IsSigned, EnumIsSaid, EnumsAreSaid}
use Rattle.planus_dump.specs.declared.schemas.Schema.{Schema}
use Rattle.planus_dump.specs.declared.schemas.EnumSchema.{EnumSchema}
use Rattle.planus_dump.specs.declared.schemas.StructSchema.{StructSchema}
use Rattle.planus_dump.specs.declared.schemas.StructFieldSchema.{StructFieldSchema}
use Rattle.planus_dump.specs.declared.schemas.Fixed.{Fixed}
use Rattle.planus_dump.specs.declared.schemas.Fixed.TheVariants as fixed
use Rattle.planus_dump.specs.declared.schemas.Number.{Number}
use Rattle.planus_dump.specs.declared.schemas.Number.TheVariants as numbers
use Rattle.planus_dump.specs.declared.schemas.Kind.TheVariants.{Nested}
use Rattle.planus_dump.specs.declared.line.Bits.TheVariants as bits
use Rattle.planus_dump.proofs.Matching.{all_pass, first_fails, le_false}
use Rattle.planus_dump.proofs.Leaves.{byte_list_matches}
use Rattle.planus_dump.proofs.AsRead.{says, number_matches, mapped, readings_are_said}

-- ---- floats

as_float_answered : (format : Format) (t : Test) (n : ℕ) → answered (t ∷ []) (from_bits format n) ≡ as_float format (answered (t ∷ []) n)
as_float_answered format t n = by_test t.passes
  where
    by_test : (passes : Bool) → (if passes then Ok (from_bits format n) else Err t.fault) ≡ as_float format (if passes then Ok n else Err t.fault)
    by_test true = refl
    by_test false = refl

pub floats_are_said : (S : List ℕ) (f : ℕ) → FloatsAreSaid S f
floats_are_said S f = record {
  single = subst (SaysAsRead (plain_reading f32_shape S f) (λ x. x)) (as_float_answered binary32 (number_test S f w32) (number S f w32))
      (says (plain_reading f32_shape S f) (λ x. x) (number_test S f w32 ∷ []) (from_bits binary32 (number S f w32)) (number_matches S f w32)
      (λ x h.
      let n = mapped (from_bits binary32) (Num S f w32) x h in
      ((num_inside S f w32 n.0 n.1, tt), ap (from_bits binary32) (sym (num_value S f w32 n.0 n.1)) ∙ n.2))
      (λ all. (from_bits binary32 (number S f w32), ap (option_map (from_bits binary32)) (num_there S f w32 all.0))));
  double = subst (SaysAsRead (plain_reading f64_shape S f) (λ x. x)) (as_float_answered binary64 (number_test S f w64) (number S f w64))
      (says (plain_reading f64_shape S f) (λ x. x) (number_test S f w64 ∷ []) (from_bits binary64 (number S f w64)) (number_matches S f w64)
      (λ x h.
      let n = mapped (from_bits binary64) (Num S f w64) x h in
      ((num_inside S f w64 n.0 n.1, tt), ap (from_bits binary64) (sym (num_value S f w64 n.0 n.1)) ∙ n.2))
      (λ all. (from_bits binary64 (number S f w64), ap (option_map (from_bits binary64)) (num_there S f w64 all.0))));
}

-- ---- structs

same_tests : (a b c d : ℕ) → (a ≤ b → c ≤ d) → (c ≤ d → a ≤ b) → nat_le a b ≡ nat_le c d
same_tests a b c d to back = by_test (nat_le c d) refl
  where
    by_test : (inside : Bool) → nat_le c d ≡ inside → nat_le a b ≡ inside
    by_test true e = le-leb a b (back (leb-true c d e))
    by_test false e = le_false a b (let above : d < c = grind (arith, nat_tests, e) in later above)
      where
        later : d < c → b < a
        later above = elim (lt_or_le b a) as (λ _. b < a) [ inl less ↦ less | inr more ↦ absurd (omega (arith, to more, above)) ]
          where
            lt_or_le : (b a : ℕ) → (b < a) ⊎ (a ≤ b)
            lt_or_le b a = grind arith

module _ (S : List ℕ) (f : ℕ) (from : f ≤ length S) where
  moved_test : (d size : ℕ) → nat_le (d + size) (length (drop f S)) ≡ nat_le (f + d + size) (length S)
  moved_test d size = same_tests (d + size) (length (drop f S)) (f + d + size) (length S) (λ h. omega (arith, h, from, length-drop f S)) (λ h. omega (arith, h, from, length-drop f S))

  moved_number : (w : Width) (d : ℕ) → number (drop f S) d w ≡ number S (f + d) w
  moved_number w d = ap (λ bytes. from_le_bytes w (take (byte_len w) bytes)) (drop-drop d f S)

  moved_answer : {A : Type 0} (w : Width) (d : ℕ) (g : ℕ → A) → answered (number_test (drop f S) d w ∷ []) (g (number (drop f S) d w)) ≡ answered (number_test S (f + d) w ∷ []) (g (number S (f + d) w))
  moved_answer w d g =
      ap (λ passes. if passes then Ok (g (number (drop f S) d w)) else Err (fault_text InvalidOffset)) (moved_test d (byte_len w))
      ∙ ap (λ n. answered (number_test S (f + d) w ∷ []) (g n)) (moved_number w d)

  moved_number_leaf : (number : Number) (d : ℕ) → leaf_at (LeafNumber number) (drop f S) d ≡ leaf_at (LeafNumber number) S (f + d)
  moved_number_leaf numbers.U8 d = moved_answer w8 d decimal
  moved_number_leaf numbers.U16 d = moved_answer w16 d decimal
  moved_number_leaf numbers.U32 d = moved_answer w32 d decimal
  moved_number_leaf numbers.U64 d = moved_answer w64 d decimal
  moved_number_leaf numbers.I8 d = moved_answer w8 d (λ n. signed_decimal (cast_signed w8 n))
  moved_number_leaf numbers.I16 d = moved_answer w16 d (λ n. signed_decimal (cast_signed w16 n))
  moved_number_leaf numbers.I32 d = moved_answer w32 d (λ n. signed_decimal (cast_signed w32 n))
  moved_number_leaf numbers.I64 d = moved_answer w64 d (λ n. signed_decimal (cast_signed w64 n))

  moved_enum : (o : Option EnumSchema) (d : ℕ) (path : List ℕ) → enum_events o (drop f S) d path ≡ enum_events o S (f + d) path
  moved_enum None d path = refl
  moved_enum (Some shape) d path =
      ap (λ a. answer_event path (named shape.flags a (names_in shape.flags (number (drop f S) d (number_width shape.number)) shape.values.items)) ∷ []) (moved_number_leaf shape.number d)
      ∙ ap (λ n. answer_event path (named shape.flags (leaf_at (LeafNumber shape.number) S (f + d)) (names_in shape.flags n shape.values.items)) ∷ []) (moved_number (number_width shape.number) d)

  moved_struct : (schema : Schema) (T : TableEvents) (o : Option StructSchema) (d : ℕ) (path : List ℕ) → struct_events schema T o (drop f S) d path ≡ struct_events schema T o S (f + d) path
  moved_struct schema T None d path = refl
  moved_struct schema T (Some shape) d path =
      ap (λ inside. if inside then line (struct_line path (string_bytes shape.name)) ∷ struct_fields_events schema T shape.fields.items (drop d (drop f S)) path else fault_event path (fault_text InvalidOffset) ∷ []) (moved_test d shape.size)
      ∙ ap (λ bytes. if nat_le (f + d + shape.size) (length S) then line (struct_line path (string_bytes shape.name)) ∷ struct_fields_events schema T shape.fields.items bytes path else fault_event path (fault_text InvalidOffset) ∷ []) (drop-drop d f S)

  moved_structs : (schema : Schema) (left index d : ℕ) (path : List ℕ) → structs schema left index (drop f S) d path ≡ structs schema left index S (f + d) path
  unfolding structs
  moved_structs schema zero index d path = refl
  moved_structs schema (suc left) index d path = moved_struct schema (structs schema left) (slice_get schema.structs.items index) d path

  moved_fixed : (schema : Schema) (left : ℕ) (value : Fixed) (d : ℕ) (path : List ℕ) → fixed_events schema (structs schema left) value (drop f S) d path ≡ fixed_events schema (structs schema left) value S (f + d) path
  moved_fixed schema left (fixed.Number number) d path = ap (λ a. answer_event path a ∷ []) (moved_number_leaf number d)
  moved_fixed schema left fixed.Bool d path = ap (λ a. answer_event path a ∷ []) (moved_answer w8 d (λ n. truth_text (not (n == 0))))
  moved_fixed schema left fixed.F32 d path = ap (λ a. float_event bits.F32 path a ∷ []) (moved_answer w32 d (λ n. n))
  moved_fixed schema left fixed.F64 d path = ap (λ a. float_event bits.F64 path a ∷ []) (moved_answer w64 d (λ n. n))
  moved_fixed schema left (fixed.Enum index) d path = moved_enum (slice_get schema.enums.items index) d path
  moved_fixed schema left (fixed.Struct index) d path = moved_structs schema left index d path

  moved_values : (schema : Schema) (left : ℕ) (value : Fixed) (d : ℕ) (path : List ℕ) (n i : ℕ) → values_events schema (structs schema left) value (drop f S) d path n i ≡ values_events schema (structs schema left) value S (f + d) path n i
  moved_values schema left value d path zero i = refl
  moved_values schema left value d path (suc n) i =
      let place = i * fixed_size schema value in
      let same : f + (d + place) ≡ f + d + place = omega arith in
      ap (λ es. es ++ values_events schema (structs schema left) value (drop f S) d path n (i + 1))
      (moved_fixed schema left value (d + place) (item_path path i) ∙ ap (λ k. fixed_events schema (structs schema left) value S k (item_path path i)) same)
      ∙ ap (λ es. fixed_events schema (structs schema left) value S (f + d + place) (item_path path i) ++ es) (moved_values schema left value d path n (i + 1))

  moved_counted : (schema : Schema) (left : ℕ) (count : Option ℕ) (value : Fixed) (d : ℕ) (path : List ℕ) → counted_events schema (structs schema left) count value (drop f S) d path ≡ counted_events schema (structs schema left) count value S (f + d) path
  moved_counted schema left None value d path = moved_fixed schema left value d path
  moved_counted schema left (Some count) value d path = moved_values schema left value d path count 0

  moved_fields : (schema : Schema) (left : ℕ) (fields : List StructFieldSchema) (path : List ℕ) → struct_fields_events schema (structs schema left) fields (drop f S) path ≡ fields_at schema (structs schema left) fields S f path
  moved_fields schema left [] path = refl
  moved_fields schema left (field ∷ fields) path =
      let at = field_path path (string_bytes field.name) in
      ap (λ es. es ++ struct_fields_events schema (structs schema left) fields (drop f S) path) (moved_counted schema left field.count field.fixed field.distance at)
      ∙ ap (λ es. counted_events schema (structs schema left) field.count field.fixed S (f + field.distance) at ++ es) (moved_fields schema left fields path)

pub structs_are_said : (S : List ℕ) (f : ℕ) → StructsAreSaid S f
structs_are_said S f = record {
  inside = λ schema left shape path h.
      let test : nat_le (f + shape.size) (length S) ≡ true = le-leb (f + shape.size) (length S) h in
      rw test (ap (λ es. line (struct_line path (string_bytes shape.name)) ∷ es) (moved_fields S f (omega (arith, h)) schema left shape.fields.items path));
  outside = λ schema left shape path h.
      let test : nat_le (f + shape.size) (length S) ≡ false = le_false (f + shape.size) (length S) (grind (arith, h)) in rw test refl;
}

-- ---- structs of unions

bits_there : (S : List ℕ) (f n : ℕ) → Num S f w32 ≡ Some n → bits_at w32 S f ≡ Ok n
bits_there S f n e =
    all_pass (number_clause S f w32 ∷ []) (number_test S f w32 ∷ []) (number S f w32) (number_matches S f w32) (num_inside S f w32 n e, tt)
    ∙ ap Ok (sym (num_value S f w32 n e))

bits_inside : (S : List ℕ) (f : ℕ) → f + 4 ≤ length S → bits_at w32 S f ≡ Ok (number S f w32)
bits_inside S f h = all_pass (number_clause S f w32 ∷ []) (number_test S f w32 ∷ []) (number S f w32) (number_matches S f w32) (h, tt)

-- a struct of a schema is dumped one level below the greatest
struct_shown : (schema : Schema) (index : ℕ) (S : List ℕ) (position : ℕ) (path : List ℕ) (shape : StructSchema) → slice_get schema.structs.items index ≡ Some shape
    → value_events schema (fixed.Struct index) S position path ≡ struct_events schema (structs schema 63) (Some shape) S position path
unfolding structs
struct_shown schema index S position path shape is = ap (λ o. struct_events schema (structs schema 63) o S position path) is

pub led_structs_are_said : (S : List ℕ) (f : ℕ) → LedStructsAreSaid S f
led_structs_are_said S f = record {
  there = λ schema index shape path position is h.
      let n = h.0.0 in
      ap (led_events schema index S f path) (bits_there S f n h.0.1)
      ∙ ap (λ p. value_events schema (fixed.Struct index) S p path) (sym h.0.2)
      ∙ struct_shown schema index S position path shape is
      ∙ (structs_are_said S position).inside schema 63 shape path h.1;
  fault = λ schema index shape path e is h. broken schema index shape path e is h;
}
  where
    broken : (schema : Schema) (index : ℕ) (shape : StructSchema) (path : List ℕ) (e : ErrorKind) → slice_get schema.structs.items index ≡ Some shape
        → FirstBroken (plain_ref_clauses shape.size S f) e → led_events schema index S f path (bits_at w32 S f) ≡ fault_event path (fault_text e) ∷ []
    broken schema index shape path e is (inl h) =
        ap (led_events schema index S f path) (first_fails (number_clause S f w32 ∷ []) (number_test S f w32 ∷ []) (number S f w32) e (number_matches S f w32) (inl h))
    broken schema index shape path e is (inr (h, inl past)) =
        ap (led_events schema index S f path) (bits_inside S f h)
        ∙ struct_shown schema index S (f + number S f w32) path shape is
        ∙ (structs_are_said S (f + number S f w32)).outside schema 63 shape path past.0
        ∙ ap (λ k. fault_event path (fault_text k) ∷ []) (sym past.1)
    broken schema index shape path e is (inr (h, inr none)) = absurd none.1

-- ---- nested buffers

module _ (E : TableEvents) (index : ℕ) (S : List ℕ) (f : ℕ) (path : List ℕ) where
  content_read : (content : List ℕ) → Answer (byte_list_reading S f) (Ok content) → answered (byte_list_tests S f) (content_at S f) ≡ Ok content
  content_read content there =
      let holds = byte_list_holds S f content there in
      all_pass (byte_list_clauses S f) (byte_list_tests S f) (content_at S f) (byte_list_matches S f) holds.0 ∙ ap Ok (sym holds.1)

  of_content : (content : List ℕ) (a : Result Seen (List ℕ)) → Answer (byte_list_reading S f) (Ok content) → table_at content 0 ≡ a → place_events E (Nested index) S f path ≡ buffer_events E index path content a
  of_content content a there is = ap (nested_events E index path) (content_read content there) ∙ ap (buffer_events E index path content) is

pub buffers_are_said : (S : List ℕ) (f : ℕ) → BuffersAreSaid S f
buffers_are_said S f = record {
  table = λ E index path content layout there root. of_content E index S f path content (Ok (layout_in content layout)) there ((readings_are_said content 0).table.answer (Ok layout) root);
  bytes = λ E index path content e there root. of_content E index S f path content (Err (fault_text e)) there ((readings_are_said content 0).table.answer (Err e) root);
  fault = λ E index path e broken. ap (nested_events E index path) (first_fails (byte_list_clauses S f) (byte_list_tests S f) (content_at S f) e (byte_list_matches S f) broken);
}

-- ---- enums

-- each value has the number of its variant, as far as the tests of one number tell
abbrev Alike : {E N : Type 0} → (N → N → Bool) → N → ℕ → List (N × E) → List (ℕ × String Global) → Type 0
Alike equal m n [] [] = Unit {0}
Alike equal m n [] (value ∷ values) = ⊥
Alike equal m n (one ∷ variants) [] = ⊥
Alike equal m n (one ∷ variants) (value ∷ values) = ((n == value.0) ≡ equal m one.0) × Alike equal m n variants values

names_none : {E N : Type 0} (equal : N → N → Bool) (m : N) (n : ℕ) (variants : List (N × E)) (values : List (ℕ × String Global)) → Alike equal m n variants values
    → variant_in equal variants m ≡ None → names_in false n values ≡ []
names_none equal m n [] [] alike none = refl
names_none equal m n [] (value ∷ values) alike none = absurd alike
names_none equal m n (one ∷ variants) [] alike none = absurd alike
names_none equal m n (one ∷ variants) (value ∷ values) alike none = by_test (equal m one.0) alike.0 none (names_none equal m n variants values alike.1)
  where
    by_test : (here : Bool) → (n == value.0) ≡ here → (if here then Some one.1 else variant_in equal variants m) ≡ None
        → (variant_in equal variants m ≡ None → names_in false n values ≡ []) → (if n == value.0 then string_bytes value.1 ∷ names_in false n values else names_in false n values) ≡ []
    by_test true e none later = cc
    by_test false e none later = rw e (later none)

names_some : {E N : Type 0} (equal : N → N → Bool) (m : N) (n : ℕ) (variants : List (N × E)) (values : List (ℕ × String Global)) (x : E) → Alike equal m n variants values
    → variant_in equal variants m ≡ Some x → (name : List ℕ) × (names : List (List ℕ)) × (names_in false n values ≡ name ∷ names)
names_some equal m n [] [] x alike some = cc
names_some equal m n [] (value ∷ values) x alike some = absurd alike
names_some equal m n (one ∷ variants) [] x alike some = absurd alike
names_some equal m n (one ∷ variants) (value ∷ values) x alike some = by_test (equal m one.0) alike.0 some (names_some equal m n variants values x alike.1)
  where
    by_test : (here : Bool) → (n == value.0) ≡ here → (if here then Some one.1 else variant_in equal variants m) ≡ Some x
        → (variant_in equal variants m ≡ Some x → (name : List ℕ) × (names : List (List ℕ)) × (names_in false n values ≡ name ∷ names))
        → (name : List ℕ) × (names : List (List ℕ)) × ((if n == value.0 then string_bytes value.1 ∷ names_in false n values else names_in false n values) ≡ name ∷ names)
    by_test true e some later = (string_bytes value.1, names_in false n values, rw e refl)
    by_test false e some later = let more = later some in (more.0, more.1, rw e more.2)

first_of_both : {A : Type 0} (x y : A) (xs ys : List A) → x ∷ xs ≡ y ∷ ys → (x ≡ y) × (xs ≡ ys)
first_of_both x y xs ys e = (cc, cc)

unsigned_alike : {E : Type 0} (n : ℕ) (variants : List (ℕ × E)) (values : List (ℕ × String Global)) → map (λ (value : ℕ × String Global). value.0) values ≡ map (λ (one : ℕ × E). one.0) variants
    → Alike nat_eq n n variants values
unsigned_alike n [] [] same = tt
unsigned_alike n [] (value ∷ values) same = cc
unsigned_alike n (one ∷ variants) [] same = cc
unsigned_alike {E} n (one ∷ variants) (value ∷ values) same =
    let parts = first_of_both value.0 one.0 (map (λ (value : ℕ × String Global). value.0) values) (map (λ (one : ℕ × E). one.0) variants) same in
    (ap (λ m. n == m) parts.0, unsigned_alike n variants values parts.1)

bits_are : (w : Width) → 8 * byte_len w ≡ bits_in w
bits_are w8 = refl
bits_are w16 = refl
bits_are w32 = refl
bits_are w64 = refl
bits_are w128 = refl

unsigned_again : (width : Width) (n : ℕ) → n < 2 ^ (8 * byte_len width) → cast_unsigned width (cast_signed width n) ≡ n
unsigned_again width n small = of_z-to_z width n (subst (λ m. n < 2 ^ m) (bits_are width) small)

same_int : (width : Width) (n : ℕ) (z : ℤ) → n < 2 ^ (8 * byte_len width) → FitsSigned width z → (n == cast_unsigned width z) ≡ int_eq (cast_signed width n) z
same_int width n z small fits =
    same_from_decides {P = cast_signed width n ≡ z} (n == cast_unsigned width z) (int_eq (cast_signed width n) z) (
      (λ e. ap (cast_signed width) (eqb-true n (cast_unsigned width z) e) ∙ to_z-of_z width z fits),
      (λ is. eq-eqb n (cast_unsigned width z) (sym (unsigned_again width n small) ∙ ap (cast_unsigned width) is)),
    )
    (Decides-int_eq (cast_signed width n) z)

signed_alike : {E : Type 0} (width : Width) (n : ℕ) (variants : List (ℤ × E)) (values : List (ℕ × String Global)) → n < 2 ^ (8 * byte_len width) → AllByRecursion (λ (one : ℤ × E). FitsSigned width one.0) variants
    → map (λ (value : ℕ × String Global). value.0) values ≡ map (λ (one : ℤ × E). cast_unsigned width one.0) variants → Alike int_eq (cast_signed width n) n variants values
signed_alike width n [] [] small fit same = tt
signed_alike width n [] (value ∷ values) small fit same = cc
signed_alike width n (one ∷ variants) [] small fit same = cc
signed_alike {E} width n (one ∷ variants) (value ∷ values) small fit same =
    let parts = first_of_both value.0 (cast_unsigned width one.0) (map (λ (value : ℕ × String Global). value.0) values) (map (λ (one : ℤ × E). cast_unsigned width one.0) variants) same in
    (ap (λ m. n == m) parts.0 ∙ same_int width n one.0 small fit.0, signed_alike width n variants values small fit.1 parts.1)

none_of : {E : Type 0} (o : Option E) → (IsSome o → ⊥) → o ≡ None
none_of None h = refl
none_of (Some x) h = absurd (h refl)

known_number : {E : Type 0} (g : ℕ → Option E) (m : Option ℕ) (x : E) → option_and_then g m ≡ Some x → (n : ℕ) × (m ≡ Some n) × (g n ≡ Some x)
known_number g None x e = cc
known_number g (Some n) x e = (n, refl, e)

unsigned_leaf : (width : Width) (number : Number) (S : List ℕ) (f : ℕ) → IsUnsigned width number → (leaf_at (LeafNumber number) S f ≡ unsigned_at width S f) × (number_width number ≡ width)
unsigned_leaf width numbers.U8 S f is = (ap (λ w. unsigned_at w S f) (sym is), sym is)
unsigned_leaf width numbers.U16 S f is = (ap (λ w. unsigned_at w S f) (sym is), sym is)
unsigned_leaf width numbers.U32 S f is = (ap (λ w. unsigned_at w S f) (sym is), sym is)
unsigned_leaf width numbers.U64 S f is = (ap (λ w. unsigned_at w S f) (sym is), sym is)
unsigned_leaf width _ S f is = absurd is

signed_leaf : (width : Width) (number : Number) (S : List ℕ) (f : ℕ) → IsSigned width number → (leaf_at (LeafNumber number) S f ≡ signed_at width S f) × (number_width number ≡ width)
signed_leaf width numbers.I8 S f is = (ap (λ w. signed_at w S f) (sym is), sym is)
signed_leaf width numbers.I16 S f is = (ap (λ w. signed_at w S f) (sym is), sym is)
signed_leaf width numbers.I32 S f is = (ap (λ w. signed_at w S f) (sym is), sym is)
signed_leaf width numbers.I64 S f is = (ap (λ w. signed_at w S f) (sym is), sym is)
signed_leaf width _ S f is = absurd is

-- an enum's number in terms of its text and names
enum_by : (shape : EnumSchema) (S : List ℕ) (f : ℕ) (width : Width) (a : Result (List ℕ) (List ℕ)) → shape.flags ≡ false → number_width shape.number ≡ width → leaf_at (LeafNumber shape.number) S f ≡ a
    → enum_at shape S f ≡ named false a (names_in false (number S f width) shape.values.items)
enum_by shape S f width a plain same leaf =
    ap (λ flags. named flags (leaf_at (LeafNumber shape.number) S f) (names_in flags (number S f (number_width shape.number)) shape.values.items)) plain
    ∙ ap (λ w. named false (leaf_at (LeafNumber shape.number) S f) (names_in false (number S f w) shape.values.items)) same
    ∙ ap (λ r. named false r (names_in false (number S f width) shape.values.items)) leaf

named_some : (text : List ℕ) (names : List (List ℕ)) → (name : List ℕ) × (more : List (List ℕ)) × (names ≡ name ∷ more) → named false (Ok text) names ≡ Ok (text ++ names_text names)
named_some text names (name, more, is) = ap (named false (Ok text)) is ∙ ap (λ all. Ok (text ++ names_text all)) (sym is)

number_said : {A : Type 0} (S : List ℕ) (f : ℕ) (width : Width) (x : A) → f + byte_len width ≤ length S → answered (number_test S f width ∷ []) x ≡ Ok x
number_said S f width x inside = rw (le-leb (f + byte_len width) (length S) inside) refl

number_unsaid : {A : Type 0} (S : List ℕ) (f : ℕ) (width : Width) (x : A) → (f + byte_len width ≤ length S → ⊥) → answered (number_test S f width ∷ []) x ≡ Err (fault_text InvalidOffset)
number_unsaid S f width x outside = first_fails (clause (f + byte_len width ≤ length S) InvalidOffset ∷ []) (number_test S f width ∷ []) x InvalidOffset (number_matches S f width) (inl (outside, refl))

module _ {E : Type 0} (S : List ℕ) (f : ℕ) (width : Width) (are : AreBytes width) (layout : IsLayout (byte_len width) (byte_len width)) (variants : List (ℕ × E)) (numbers_are : (x : E) → Numbered nat_eq variants x)
    (shape : EnumSchema) (unsigned : IsUnsigned width shape.number) (plain : shape.flags ≡ false) (same : map (λ (value : ℕ × String Global). value.0) shape.values.items ≡ map (λ (one : ℕ × E). one.0) variants) where
  said_as : (a : Result (List ℕ) (List ℕ)) → unsigned_at width S f ≡ a → enum_at shape S f ≡ named false a (names_in false (number S f width) shape.values.items)
  said_as a is = let leaf = unsigned_leaf width shape.number S f unsigned in enum_by shape S f width a plain leaf.1 (leaf.0 ∙ is)

  unsigned_value : (x : E) → Answer (plain_reading (unsigned_enum width are layout variants numbers_are) S f) (Ok x)
      → (n : ℕ) × (variant_in nat_eq variants n ≡ Some x) × (enum_at shape S f ≡ Ok (decimal n ++ names_text (names_in false n shape.values.items)))
  unsigned_value x there =
      let read = known_number (variant_in nat_eq variants) (Num S f width) x there in
      let n = number S f width in
      let is : read.0 ≡ n = num_value S f width read.0 read.1 in
      let some : variant_in nat_eq variants n ≡ Some x = subst (λ m. variant_in nat_eq variants m ≡ Some x) is read.2 in (
        n,
        some,
        said_as (Ok (decimal n)) (number_said S f width (decimal n) (num_inside S f width read.0 read.1))
            ∙ named_some (decimal n) (names_in false n shape.values.items) (names_some nat_eq n n variants shape.values.items x (unsigned_alike n variants shape.values.items same) some),
      )

  unsigned_fault : (e : ErrorKind) → Answer (plain_reading (unsigned_enum width are layout variants numbers_are) S f) (Err e) → enum_at shape S f ≡ Err (fault_text e)
  unsigned_fault e (inl (outside, is)) = said_as (Err (fault_text InvalidOffset)) (number_unsaid S f width (decimal (number S f width)) outside) ∙ ap (λ kind. Err (fault_text kind)) (sym is)
  unsigned_fault e (inr (inside, inl (unknown, is))) =
      let n = number S f width in
      let none : names_in false n shape.values.items ≡ [] = names_none nat_eq n n variants shape.values.items (unsigned_alike n variants shape.values.items same) (none_of (variant_in nat_eq variants n) unknown) in
      said_as (Ok (decimal n)) (number_said S f width (decimal n) inside) ∙ ap (named false (Ok (decimal n))) none
      ∙ ap (λ kind. Err (fault_text kind)) (sym is)
  unsigned_fault e (inr (inside, inr (known, broken))) = absurd broken

  pub unsigned_is_said : EnumIsSaid (plain_reading (unsigned_enum width are layout variants numbers_are) S f) (variant_in nat_eq variants) (λ n. n) decimal shape S f
  unsigned_is_said = record { value = unsigned_value; fault = unsigned_fault }

module _ {E : Type 0} (S : List ℕ) (f : ℕ) (width : Width) (are : AreBytes width) (layout : IsLayout (byte_len width) (byte_len width)) (variants : List (ℤ × E)) (numbers_are : (x : E) → Numbered int_eq variants x)
    (shape : EnumSchema) (signed : IsSigned width shape.number) (plain : shape.flags ≡ false) (small : NumberFits width (number S f width)) (fit : AllByRecursion (λ (one : ℤ × E). FitsSigned width one.0) variants)
    (same : map (λ (value : ℕ × String Global). value.0) shape.values.items ≡ map (λ (one : ℤ × E). cast_unsigned width one.0) variants) where
  signed_as : (a : Result (List ℕ) (List ℕ)) → signed_at width S f ≡ a → enum_at shape S f ≡ named false a (names_in false (number S f width) shape.values.items)
  signed_as a is = let leaf = signed_leaf width shape.number S f signed in enum_by shape S f width a plain leaf.1 (leaf.0 ∙ is)

  signed_value : (x : E) → Answer (plain_reading (signed_enum width are layout variants numbers_are) S f) (Ok x)
      → (z : ℤ) × (variant_in int_eq variants z ≡ Some x) × (enum_at shape S f ≡ Ok (signed_decimal z ++ names_text (names_in false (cast_unsigned width z) shape.values.items)))
  signed_value x there =
      let read = known_number (λ n. variant_in int_eq variants (cast_signed width n)) (Num S f width) x there in
      let n = number S f width in
      let z = cast_signed width n in
      let is : read.0 ≡ n = num_value S f width read.0 read.1 in
      let some : variant_in int_eq variants z ≡ Some x = subst (λ m. variant_in int_eq variants (cast_signed width m) ≡ Some x) is read.2 in
      let again : cast_unsigned width z ≡ n = unsigned_again width n small in (
        z,
        some,
        signed_as (Ok (signed_decimal z)) (number_said S f width (signed_decimal z) (num_inside S f width read.0 read.1))
            ∙ named_some (signed_decimal z) (names_in false n shape.values.items) (names_some int_eq z n variants shape.values.items x (signed_alike width n variants shape.values.items small fit same) some)
            ∙ ap (λ m. Ok (signed_decimal z ++ names_text (names_in false m shape.values.items))) (sym again),
      )

  signed_fault : (e : ErrorKind) → Answer (plain_reading (signed_enum width are layout variants numbers_are) S f) (Err e) → enum_at shape S f ≡ Err (fault_text e)
  signed_fault e (inl (outside, is)) = signed_as (Err (fault_text InvalidOffset)) (number_unsaid S f width (signed_decimal (cast_signed width (number S f width))) outside) ∙ ap (λ kind. Err (fault_text kind)) (sym is)
  signed_fault e (inr (inside, inl (unknown, is))) =
      let n = number S f width in
      let z = cast_signed width n in
      let none : names_in false n shape.values.items ≡ [] = names_none int_eq z n variants shape.values.items (signed_alike width n variants shape.values.items small fit same) (none_of (variant_in int_eq variants z) unknown) in
      signed_as (Ok (signed_decimal z)) (number_said S f width (signed_decimal z) inside) ∙ ap (named false (Ok (signed_decimal z))) none
      ∙ ap (λ kind. Err (fault_text kind)) (sym is)
  signed_fault e (inr (inside, inr (known, broken))) = absurd broken

  pub signed_is_said : EnumIsSaid (plain_reading (signed_enum width are layout variants numbers_are) S f) (variant_in int_eq variants) (cast_unsigned width) signed_decimal shape S f
  signed_is_said = record { value = signed_value; fault = signed_fault }

pub enums_are_said : {E : Type 0} (S : List ℕ) (f : ℕ) → EnumsAreSaid E S f
enums_are_said {E} S f = record {
  unsigned = λ width are layout variants numbers_are shape unsigned plain same. unsigned_is_said S f width are layout variants numbers_are shape unsigned plain same;
  signed = λ width are layout variants numbers_are shape signed plain small fit same. signed_is_said S f width are layout variants numbers_are shape signed plain small fit same;
}
