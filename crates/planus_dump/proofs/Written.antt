-- What is encoded of the steps of a run.
use Rattle.std.proofs.Common.{◌≡◌, ℕ, zero, suc, ◌<◌, ◌≤◌, ◌==◌, List, [], ◌∷◌, ◌++◌, length, refl, sym, ap, ◌∙◌, subst, arith, Option, Some, None, Bool, true, false}
use Rattle.std.specs.Prelude.{if◌then◌else◌, slice_get}
use Rattle.std.specs.Option.{option_map, is_none}
use Rattle.std.specs.List.{AllByRecursion}
use Rattle.std.specs.Int.{Width, w8, w16, w32, w64, w128, byte_len, to_le_bytes, from_le_bytes}
use Rattle.std.proofs.lemmas.Bool.Decides.{nat_tests}
use Rattle.planus_read.specs.Bytes.{position_of}
use Rattle.planus_read.specs.Values as value
use Rattle.planus_read.specs.Values.{Value, Field, Plain, field_at}
use Rattle.planus_read.specs.Stands.{Position, Stands, at, at_both}
use Rattle.planus_read.specs.ReadsBack.{ReadsBack}
use Rattle.planus_write.specs.Parts.{Named, position_with, position_in}
use Rattle.planus.specs.Steps.{Step, FieldStep, number_field}
use Rattle.planus.specs.Slots.{place_fault, alignment_of}
use Rattle.planus.specs.Runs.{Finish, Listed, named_at, value_distance, tags_distance, references_distance, distance_at, value_at, value_of, width_of, field_width, plain_field, fits_width, field_of, fields_of, all_of, union_of}
use Rattle.planus.specs.FinishHolds.{ValueHolds}
use Rattle.planus.proofs.Lists.{made_of, made_after, all_made, all_named}
use Rattle.planus.proofs.TableFields.{fields_made}
use Rattle.planus_dump.specs.Describes.{held_at}

width_size : (size : ℕ) (w : Width) → width_of size ≡ Some w → byte_len w ≡ size
width_size size w e = by_two (size == 2) (size == 4) (size == 8) refl refl refl e
  where
    by_two : (two four eight : Bool) → (size == 2) ≡ two → (size == 4) ≡ four → (size == 8) ≡ eight
        → (if two then Some w16 else (if four then Some w32 else (if eight then Some w64 else None))) ≡ Some w → byte_len w ≡ size
    by_two true four eight is is4 is8 e = let same : w16 ≡ w = cc in let here : 2 ≡ size = grind (arith, nat_tests) in ap byte_len (sym same) ∙ here
    by_two false true eight is is4 is8 e = let same : w32 ≡ w = cc in let here : 4 ≡ size = grind (arith, nat_tests) in ap byte_len (sym same) ∙ here
    by_two false false true is is4 is8 e = let same : w64 ≡ w = cc in let here : 8 ≡ size = grind (arith, nat_tests) in ap byte_len (sym same) ∙ here
    by_two false false false is is4 is8 e = cc

pub list_width : (size : ℕ) (w : Width) → width_of size ≡ Some w → byte_len w ≡ size
list_width size w e = width_size size w e

field_size : (size : ℕ) (w : Width) → field_width size ≡ Some w → byte_len w ≡ size
field_size size w e = by_one (size == 1) refl e
  where
    by_one : (one : Bool) → (size == 1) ≡ one → (if one then Some w8 else width_of size) ≡ Some w → byte_len w ≡ size
    by_one true is e = let same : w8 ≡ w = cc in let here : 1 ≡ size = grind (arith, nat_tests) in ap byte_len (sym same) ∙ here
    by_one false is e = width_size size w e

bytes_sized : (w : Width) (n : ℕ) → length (to_le_bytes w n) ≡ byte_len w
bytes_sized w8 n = refl
bytes_sized w16 n = refl
bytes_sized w32 n = refl
bytes_sized w64 n = refl
bytes_sized w128 n = refl

some_bytes : (w : Width) → 1 ≤ byte_len w
some_bytes w8 = omega arith
some_bytes w16 = omega arith
some_bytes w32 = omega arith
some_bytes w64 = omega arith
some_bytes w128 = omega arith

pub record IsNumber (size number : ℕ) (field : Field) : Type 0 where
  pub item : Plain
  pub is : field ≡ value.plain item
  pub sized : length item.bytes ≡ size
  pub some : 1 ≤ size
  pub again : size ≡ 1 → from_le_bytes w8 item.bytes ≡ number

one_byte : (n : ℕ) → n < 256 → from_le_bytes w8 (to_le_bytes w8 n) ≡ n
one_byte n h = omega arith

again_is : (w : Width) (size n : ℕ) → byte_len w ≡ size → fits_width w n ≡ true → size ≡ 1 → from_le_bytes w8 (to_le_bytes w n) ≡ n
again_is w8 size n sized fits one = one_byte n (grind (arith, nat_tests, fits))
again_is w16 size n sized fits one = absurd (omega arith)
again_is w32 size n sized fits one = absurd (omega arith)
again_is w64 size n sized fits one = absurd (omega arith)
again_is w128 size n sized fits one = absurd (omega arith)

number_is : (o : Option Width) (size number : ℕ) (field : Field) → ((w : Width) → o ≡ Some w → byte_len w ≡ size) → plain_field o number ≡ Some field → IsNumber size number field
number_is None size number field sizes e = cc
number_is (Some w) size number field sizes e = by_fit (fits_width w number) refl e
  where
    by_fit : (fits : Bool) → fits_width w number ≡ fits
        → (if fits then Some (value.plain (record { bytes = to_le_bytes w number; alignment = byte_len w })) else None) ≡ Some field → IsNumber size number field
    by_fit true is e = record {
      item = record { bytes = to_le_bytes w number; alignment = byte_len w };
      is = let same : value.plain (record { bytes = to_le_bytes w number; alignment = byte_len w }) ≡ field = cc in sym same;
      sized = bytes_sized w number ∙ sizes w refl;
      some = let least : 1 ≤ byte_len w = some_bytes w in omega (arith, sizes w refl);
      again = again_is w size number (sizes w refl) is;
    }
    by_fit false is e = cc

pub field_number : (listed : List Listed) (size number : ℕ) (field : Field) → field_of listed (number_field size number) ≡ Some field → IsNumber size number field
field_number listed size number field e = number_is (field_width size) size number field (field_size size) e

abbrev pub SameSlot : List Listed → Option FieldStep → Option Field → Type 0
SameSlot listed None o = o ≡ None
SameSlot listed (Some content) o = (field : Field) × (o ≡ Some field) × (field_of listed content ≡ Some field)

pub same_slots : (listed : List Listed) (slots : List ℕ) (before : ℕ) (fields : List (ℕ × FieldStep)) (entries : List (ℕ × Field)) → fields_of listed slots before fields ≡ Some entries
    → (i : ℕ) → SameSlot listed (held_at fields i) (field_at entries i)
same_slots listed slots before [] entries e i = let none : [] ≡ entries = cc in subst (λ all. field_at all i ≡ None) none refl
same_slots listed slots before (entry ∷ fields) entries e i =
    let made = fields_made entry.0 (place_fault slots before entry) (field_of listed entry.1) (fields_of listed (slots ++ entry.0 ∷ []) (alignment_of entry.1) fields) entries e in
    subst (λ all. SameSlot listed (held_at (entry ∷ fields) i) (field_at all i)) made.5
    (by_test (entry.0 == i) made.1 made.2 (field_at made.3 i) (same_slots listed (slots ++ entry.0 ∷ []) (alignment_of entry.1) fields made.3 made.4 i))
  where
    by_test : (here : Bool) (field : Field) → field_of listed entry.1 ≡ Some field → (rest : Option Field) → SameSlot listed (held_at fields i) rest
        → SameSlot listed (if here then Some entry.1 else held_at fields i) (if here then Some field else rest)
    by_test true field is rest h = (field, refl, is)
    by_test false field is rest h = h

pub record Held (steps : List Step) (places : List Listed) (B : List ℕ) (position : Position) (n : ℕ) : Type 0 where
  pub step : Step
  pub value : Value
  pub there : slice_get steps n ≡ Some step
  pub is_value : value_of places step ≡ Some value
  pub stands : Stands B position value
  pub reads_back : ReadsBack B position value

module _ (steps : List Step) (given : Finish) (values : AllByRecursion (ValueHolds steps given) given.places) where
  held_by : (n : ℕ) (named : Named) → named_at given.places n ≡ Some named → Held steps given.places given.bytes (position_in given.bytes named) n
  held_by n named e =
      let h : ValueHolds steps given (record { step = n; named = named }) = all_named (ValueHolds steps given) given.places n named values e in
      record { step = h.step; value = h.value; there = h.there; is_value = h.is_value; stands = h.stands; reads_back = h.reads_back }

  one_place : (distance : ℕ) (tags : Option ℕ) (d : ℕ) → (if is_none tags then Some distance else None) ≡ Some d
      → position_with given.bytes distance tags ≡ at (position_of given.bytes d)
  one_place distance None d e = let same : distance ≡ d = cc in ap (λ k. at (position_of given.bytes k)) same
  one_place distance (Some tags) d e = cc

  pub value_held : (n d : ℕ) → value_at given.places n ≡ Some d → Held steps given.places given.bytes (at (position_of given.bytes d)) n
  value_held n d e =
      let made = made_after value_distance (named_at given.places n) d e in
      subst (λ p. Held steps given.places given.bytes p n) (one_place made.0.distance made.0.tags d made.2) (held_by n made.0 made.1)

  both_places : (distance : ℕ) (tags : Option ℕ) (t d : ℕ) → tags ≡ Some t → option_map (λ tags. distance) tags ≡ Some d
      → position_with given.bytes distance tags ≡ at_both (position_of given.bytes t) (position_of given.bytes d)
  both_places distance None t d e h = cc
  both_places distance (Some tags) t d e h = let same : tags ≡ t = cc in let too : distance ≡ d = cc in
      ap (λ k. at_both (position_of given.bytes k) (position_of given.bytes distance)) same ∙ ap (λ k. at_both (position_of given.bytes t) (position_of given.bytes k)) too

  same_named : (o : Option Named) (a b : Named) → o ≡ Some a → o ≡ Some b → a ≡ b
  same_named o a b e h = cc

  pub lists_held : (n t d : ℕ) → distance_at tags_distance given.places n ≡ Some t → distance_at references_distance given.places n ≡ Some d
      → Held steps given.places given.bytes (at_both (position_of given.bytes t) (position_of given.bytes d)) n
  lists_held n t d e h =
      let tags = made_after tags_distance (named_at given.places n) t e in
      let references = made_after references_distance (named_at given.places n) d h in
      let same : references.0 ≡ tags.0 = same_named (named_at given.places n) references.0 tags.0 references.1 tags.1 in
      let here : references_distance tags.0 ≡ Some d = subst (λ (named : Named). references_distance named ≡ Some d) same references.2 in
      subst (λ p. Held steps given.places given.bytes p n) (both_places tags.0.distance tags.0.tags t d tags.2 here) (held_by n tags.0 tags.1)

pub record Referred (P : ℕ → Type 0) (places : List Listed) (distances : List ℕ) (i : ℕ) : Type 0 where
  pub step : ℕ
  pub distance : ℕ
  pub there : slice_get distances i ≡ Some distance
  pub is_value : value_at places step ≡ Some distance
  pub holds : P step

pub referred_at : (P : ℕ → Type 0) (places : List Listed) (referred distances : List ℕ) → all_of (value_at places) referred ≡ Some distances → AllByRecursion P referred
    → (i : ℕ) → i < length distances → Referred P places distances i
referred_at P places [] distances e all i below = let none : [] ≡ distances = cc in absurd (omega (arith, ap length none))
referred_at P places (n ∷ referred) distances e all i below =
    let made = all_made (value_at places n) (all_of (value_at places) referred) distances e in
    subst (λ ds. Referred P places ds i) made.4
    (by_index i made.0 made.1 (subst (λ ds. i < length ds) (sym made.4) below) made.2 (λ j b. referred_at P places referred made.1 made.3 all.1 j b))
  where
    by_index : (i : ℕ) → (d : ℕ) (more : List ℕ) → i < length (d ∷ more) → value_at places n ≡ Some d → ((j : ℕ) → j < length more → Referred P places more j) → Referred P places (d ∷ more) i
    by_index zero d more below is rest = record { step = n; distance = d; there = refl; is_value = is; holds = all.0 }
    by_index (suc i) d more below is rest =
        let further : Referred P places more i = rest i (omega arith) in
        record { step = further.step; distance = further.distance; there = further.there; is_value = further.is_value; holds = further.holds }

pub record Tagged (P : ℕ → ℕ → Type 0) (places : List Listed) (pairs : List (ℕ × ℕ)) (i : ℕ) : Type 0 where
  pub step : ℕ
  pub pair : ℕ × ℕ
  pub there : slice_get pairs i ≡ Some pair
  pub is_value : value_at places step ≡ Some pair.1
  pub holds : P pair.0 step

pub tagged_at : (P : ℕ → ℕ → Type 0) (places : List Listed) (items pairs : List (ℕ × ℕ)) → all_of (union_of places) items ≡ Some pairs → AllByRecursion (λ item. P item.0 item.1) items
    → (i : ℕ) → i < length pairs → Tagged P places pairs i
tagged_at P places [] pairs e all i below = let none : [] ≡ pairs = cc in absurd (omega (arith, ap length none))
tagged_at P places (item ∷ items) pairs e all i below =
    let made = all_made (union_of places item) (all_of (union_of places) items) pairs e in
    subst (λ ps. Tagged P places ps i) made.4
    (by_index i made.0 made.1 (subst (λ ps. i < length ps) (sym made.4) below) (by_tag (item.0 == 0) made.0 made.2) (λ j b. tagged_at P places items made.1 made.3 all.1 j b))
  where
    by_tag : (none : Bool) (pair : ℕ × ℕ) → (if none then None else option_map (λ distance. (item.0, distance)) (value_at places item.1)) ≡ Some pair
        → (item.0 ≡ pair.0) × (value_at places item.1 ≡ Some pair.1)
    by_tag true pair e = cc
    by_tag false pair e =
        let made = made_of (λ distance. (item.0, distance)) (value_at places item.1) pair e in
        (ap (λ (p : ℕ × ℕ). p.0) made.2, made.1 ∙ ap (λ (p : ℕ × ℕ). Some p.1) made.2)

    by_index : (i : ℕ) (pair : ℕ × ℕ) (more : List (ℕ × ℕ)) → i < length (pair ∷ more) → (item.0 ≡ pair.0) × (value_at places item.1 ≡ Some pair.1) → ((j : ℕ) → j < length more → Tagged P places more j)
        → Tagged P places (pair ∷ more) i
    by_index zero pair more below is rest = record { step = item.1; pair = pair; there = refl; is_value = is.1; holds = subst (λ tag. P tag item.1) is.0 all.0 }
    by_index (suc i) pair more below is rest =
        let further : Tagged P places more i = rest i (omega arith) in
        record { step = further.step; pair = further.pair; there = further.there; is_value = further.is_value; holds = further.holds }
