-- The values of vectors can be written.
use Rattle.std.proofs.Common.{◌≡◌, ℕ, zero, suc, ◌%◌, ◌==◌, not, ◌≤◌, List, [], ◌∷◌, length, arith, lit≤}
use Rattle.std.proofs.Common.{refl, subst, Option, Some, None}
use Rattle.std.proofs.Common.{false}
use Rattle.std.specs.Prelude.{Bool, true, if◌then◌else◌, ◌<◌, map}
use Rattle.std.specs.Int.{Width, w8, w16, w32, w64, w128, byte_len, to_le_bytes, ◌∣◌}
use Rattle.std.proofs.Common.{lit<}
use Rattle.std.proofs.lemmas.Nat.Gcd.{dvd_refl, dvd_of_mod-eq-zero}
use Rattle.std.proofs.lemmas.Bool.{and_parts, eqb-true}
use Rattle.std.specs.List.{AllByRecursion, list_all}
use Rattle.std.specs.Option.{option_map}
use Rattle.planus_back.specs.Promises.{IsPowerOfTwo}
use Rattle.planus_read.specs.Plain.{IsLayout}
use Rattle.planus_read.specs.Values as value
use Rattle.planus_read.specs.Values.{Plain, Value}
use Rattle.planus_read.specs.ReadsBack.{WellFormed}
use Rattle.planus_write.specs.Parts.{IsWritten, IsPlainList}
use Rattle.planus_write.specs.Parts.{Named}
use Rattle.planus.specs.inner.Names.{IsReached}
use Rattle.planus.specs.Runs.{Listed, named_at, value_distance, distance_at, value_at, union_of}
use Rattle.planus.specs.Runs.{all_of, numbers_value, fits_width, struct_width, struct_of}
use Rattle.planus.specs.Runs.{fits_alignment, fits_size, items_of, plains_value}
use Rattle.planus.proofs.NamedKinds.{value_reached}
use Rattle.planus.proofs.Lists.{all_named, all_there, made_of, made_after, union_made}
use Rattle.planus.proofs.Structs.{struct_made, struct_there, alignment_known, plains_made, plains_fit}
use Rattle.planus.proofs.PlainItems.{size_fits, items_sizes}
use Rattle.planus.specs.TableChecks.{struct_fault}
use Rattle.planus.specs.Replays.{plains_fault}

pub width_power : (width : Width) → IsPowerOfTwo (byte_len width)
width_power w8 = (0, refl)
width_power w16 = (1, refl)
width_power w32 = (2, refl)
width_power w64 = (3, refl)
width_power w128 = (4, refl)

pub width_positive : (width : Width) → 0 < byte_len width
width_positive w8 = lit< tt
width_positive w16 = lit< tt
width_positive w32 = lit< tt
width_positive w64 = lit< tt
width_positive w128 = lit< tt

pub width_sized : (width : Width) (n : ℕ) → length (to_le_bytes width n) ≡ byte_len width
width_sized w8 n = refl
width_sized w16 n = refl
width_sized w32 n = refl
width_sized w64 n = refl
width_sized w128 n = refl

numbers_sized : (width : Width) (items : List ℕ)
    → AllByRecursion (λ item. length item ≡ byte_len width) (map (to_le_bytes width) items)
numbers_sized width [] = tt
numbers_sized width (item ∷ items) = (width_sized width item, numbers_sized width items)

pub numbers_are_written : (before : ℕ) (width : Option Width) (items : List ℕ) (v : Value)
    → numbers_value width items ≡ Some v → IsWritten before v × WellFormed v
numbers_are_written before None items v e = (cc)
numbers_are_written before (Some width) items v e = by_test (list_all (fits_width width) items) e
  where
    list : IsPlainList (byte_len width) (byte_len width) (map (to_le_bytes width) items)
    list = record { sizes = numbers_sized width items; positive = width_positive width; multiple = dvd_refl (byte_len width); power = width_power width }

    by_test : (fit : Bool)
        → (if fit then Some (value.plain_list (byte_len width) (byte_len width) (map (to_le_bytes width) items)) else None) ≡ Some v
        → IsWritten before v × WellFormed v
    by_test true e =
        let same : value.plain_list (byte_len width) (byte_len width) (map (to_le_bytes width) items) ≡ v = cc in
        subst (λ v. IsWritten before v × WellFormed v) same (list, tt)
    by_test false e = (cc)

pub width_layout : (width : Width) (size : ℕ) → 0 < size → byte_len width ∣ size → IsLayout size (byte_len width)
unfolding width_power
width_layout width size positive multiple = record {
  power = let power = width_power width in (power.0, small width, power.1);
  positive = positive;
  multiple = multiple;
}
  where
    small : (width : Width) → (width_power width).0 ≤ 30
    small w8 = lit≤ tt
    small w16 = lit≤ tt
    small w32 = lit≤ tt
    small w64 = lit≤ tt
    small w128 = lit≤ tt

some : (n : ℕ) → not (n == 0) ≡ true → 0 < n
some zero h = (cc)
some (suc n) h = omega arith

pub size_layout : (width : Width) (size : ℕ) → fits_size (byte_len width) size ≡ true → IsLayout size (byte_len width)
size_layout width size fits =
    let parts = and_parts (not (size == 0)) (size % byte_len width == 0) fits in
    width_layout width size (some size parts.0)
    (dvd_of_mod-eq-zero (byte_len width) (eqb-true (size % byte_len width) 0 parts.1))

pub fits_layout : (width : Width) (content : List ℕ) → fits_alignment (byte_len width) content ≡ true → IsLayout (length content) (byte_len width)
fits_layout width content fits = size_layout width (length content) fits

pub struct_layout : (width : Option Width) (content : List ℕ) (item : Plain) → struct_of width content ≡ Some item → IsLayout (length item.bytes) item.alignment
struct_layout width content item e =
    let made = struct_made width content item e in
    subst (λ (item : Plain). IsLayout (length item.bytes) item.alignment) made.same (fits_layout made.known content made.fits)

pub checked_layout : (alignment : ℕ) (content : List ℕ) → struct_fault (struct_width alignment) content ≡ None → IsLayout (length content) alignment
checked_layout alignment content e =
    let there = struct_there (struct_width alignment) content e in
    let made = struct_made (struct_width alignment) content there.0 there.1 in
    subst (λ n. IsLayout (length content) n) (alignment_known alignment made.known made.is) (fits_layout made.known content made.fits)

pub structs_are_written : (before : ℕ) (width : Option Width) (content : List ℕ) (v : Value)
    → option_map value.apart (struct_of width content) ≡ Some v → IsWritten before v × WellFormed v
structs_are_written before width content v e =
    let made = made_of value.apart (struct_of width content) v e in
    subst (λ v. IsWritten before v × WellFormed v) made.2 (struct_layout width content made.0 made.1, tt)

pub plains_layout : (alignment size : ℕ) (content : List ℕ) → plains_fault (struct_width alignment) size content ≡ None → IsLayout size alignment
plains_layout alignment size content e =
    let fit = plains_fit alignment size content e in
    subst (λ n. IsLayout size n) fit.is (size_layout fit.known size (size_fits (byte_len fit.known) size content fit.fits))

pub plains_are_written : (before : ℕ) (width : Option Width) (size : ℕ) (content : List ℕ) (v : Value)
    → plains_value width size content ≡ Some v → IsWritten before v × WellFormed v
plains_are_written before width size content v e =
    let made = plains_made width size content v e in
    let layout = size_layout made.known size (size_fits (byte_len made.known) size content made.fits) in
    let list : IsPlainList size (byte_len made.known) (items_of size content)
    = record {
      sizes = items_sizes (byte_len made.known) size content made.fits;
      positive = layout.positive;
      multiple = layout.multiple;
      power = width_power made.known;
    } in
    subst (λ v. IsWritten before v × WellFormed v) made.same (list, tt)

module _ (P : Listed → Type 0) (before : ℕ) (reached : (one : Listed) → P one → IsReached before one.named) (listed : List Listed) (all : AllByRecursion P listed) where
  pub distance_behind : (which : Named → Option ℕ) → ((named : Named) (distance : ℕ) → IsReached before named → which named ≡ Some distance → distance ≤ before)
      → (step distance : ℕ) → distance_at which listed step ≡ Some distance → distance ≤ before
  distance_behind which behind step distance e =
      let made = made_after which (named_at listed step) distance e in
      behind made.0 distance (reached (record { step = step; named = made.0 }) (all_named P listed step made.0 all made.1)) made.2

  pub value_behind : (step distance : ℕ) → value_at listed step ≡ Some distance → distance ≤ before
  value_behind = distance_behind value_distance (value_reached before)

  pub references_behind : (steps distances : List ℕ) → all_of (value_at listed) steps ≡ Some distances → AllByRecursion (λ distance. distance ≤ before) distances
  references_behind steps distances e = all_there (λ distance. distance ≤ before) (value_at listed) value_behind steps distances e

  union_behind : (item union : ℕ × ℕ) → union_of listed item ≡ Some union → union.1 ≤ before
  union_behind item union e =
      let made = union_made listed item union e in
      subst (λ (u : ℕ × ℕ). u.1 ≤ before) made.3 (value_behind item.1 made.0 made.2)

  pub unions_behind : (items unions : List (ℕ × ℕ)) → all_of (union_of listed) items ≡ Some unions → AllByRecursion (λ union. union.1 ≤ before) unions
  unions_behind items unions e = all_there (λ (union : ℕ × ℕ). union.1 ≤ before) (union_of listed) union_behind items unions e
