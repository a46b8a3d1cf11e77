-- The struct, or the vector, of some bytes, or its error.
use Rattle.std.proofs.Common.{◌≡◌, ◌∙◌, ℕ, List, refl, sym, ap, subst, arith, Option, Some, None, Bool, true, false}
use Rattle.std.specs.Prelude.{◌==◌, if◌then◌else◌}
use Rattle.std.specs.Int.{Width, w8, w16, w32, w64, w128, byte_len}
use Rattle.std.proofs.lemmas.Bool.Decides.{nat_tests}
use Rattle.planus_read.specs.Values as value
use Rattle.planus_read.specs.Values.{Plain, Value}
use Rattle.planus.specs.Runs.{struct_of, struct_width, width_of, field_width, fits_alignment}
use Rattle.planus.specs.Runs.{fits_items, items_of, plains_value}
use Rattle.planus.specs.TableChecks.{struct_fault}
use Rattle.planus.specs.Replays.{plains_fault}
use Rattle.planus.specs.declared.replaying.faults.Why.TheVariants.{WrongSize}

-- what is known of a struct that is there
pub record IsStruct (width : Option Width) (content : List ℕ) (item : Plain) : Type 0 where
  pub known : Width
  pub is : width ≡ Some known
  pub fits : fits_alignment (byte_len known) content ≡ true
  pub same : record { bytes = content; alignment = byte_len known } ≡ item

pub struct_made : (width : Option Width) (content : List ℕ) (item : Plain) → struct_of width content ≡ Some item → IsStruct width content item
struct_made None content item e = (cc)
struct_made (Some width) content item e = by_test (fits_alignment (byte_len width) content) refl e
  where
    by_test : (fit : Bool) → fits_alignment (byte_len width) content ≡ fit
        → (if fit then Some (record { bytes = content; alignment = byte_len width }) else None) ≡ Some item → IsStruct (Some width) content item
    by_test true fits e = record { known = width; is = refl; fits = fits; same = (let both : record { bytes = content; alignment = byte_len width } ≡ item = cc in both) }
    by_test false fits e = (cc)

pub struct_good : (width : Option Width) (content : List ℕ) (item : Plain) → struct_of width content ≡ Some item → struct_fault width content ≡ None
struct_good None content item e = (cc)
struct_good (Some width) content item e = by_test (fits_alignment (byte_len width) content) e
  where
    by_test : (fit : Bool) → (if fit then Some (record { bytes = content; alignment = byte_len width }) else None) ≡ Some item
        → (if fit then None else Some WrongSize) ≡ None
    by_test true e = refl
    by_test false e = (cc)

pub struct_there : (width : Option Width) (content : List ℕ) → struct_fault width content ≡ None → (item : Plain) × (struct_of width content ≡ Some item)
struct_there None content e = (cc)
struct_there (Some width) content e = by_test (fits_alignment (byte_len width) content) e
  where
    alone : Plain
    alone = record { bytes = content; alignment = byte_len width }

    by_test : (fit : Bool) → (if fit then None else Some WrongSize) ≡ None → (item : Plain) × ((if fit then Some alone else None) ≡ Some item)
    by_test true e = (alone, refl)
    by_test false e = (cc)

chosen : (size k : ℕ) (v w : Width) (other : Option Width) → byte_len v ≡ k → (other ≡ Some w → byte_len w ≡ size) → (test : Bool) → (size == k) ≡ test
    → (if test then Some v else other) ≡ Some w → byte_len w ≡ size
chosen size k v w other of further true is e =
    let n : size ≡ k = grind (arith, nat_tests, is) in
    let same : v ≡ w = cc in
    sym (ap byte_len same) ∙ of ∙ sym n
chosen size k v w other of further false is e = further e

pub width_known : (size : ℕ) (w : Width) → field_width size ≡ Some w → byte_len w ≡ size
width_known size w e =
    chosen size 1 w8 w (width_of size) refl
    (chosen size 2 w16 w (if size == 4 then Some w32 else if size == 8 then Some w64 else None) refl
    (chosen size 4 w32 w (if size == 8 then Some w64 else None) refl
    (chosen size 8 w64 w None refl (λ e. (cc)) (size == 8) refl) (size == 4) refl) (size == 2) refl) (size == 1) refl e

pub alignment_known : (alignment : ℕ) (w : Width) → struct_width alignment ≡ Some w → byte_len w ≡ alignment
alignment_known alignment w e = chosen alignment 16 w128 w (field_width alignment) refl (width_known alignment w) (alignment == 16) refl e

pub good_at : (alignment : ℕ) (width : Width) (known : ℕ) (content : List ℕ) → struct_width alignment ≡ Some width → known ≡ byte_len width
    → fits_alignment known content ≡ true → struct_fault (struct_width known) content ≡ None
good_at alignment width known content is same fits =
    let back : known ≡ alignment = same ∙ alignment_known alignment width is in
    ap (λ n. struct_fault (struct_width n) content) back ∙ ap (λ w. struct_fault w content) is
    ∙ ap (λ (fit : Bool). if fit then None else Some WrongSize) (subst (λ n. fits_alignment n content ≡ true) same fits)

pub is_there : (alignment : ℕ) (width : Width) (known : ℕ) (content : List ℕ) → struct_width alignment ≡ Some width → known ≡ byte_len width
    → fits_alignment known content ≡ true → struct_of (struct_width alignment) content ≡ Some (record { bytes = content; alignment = known })
is_there alignment width known content is same fits =
    ap (λ w. struct_of w content) is
    ∙ ap (λ (fit : Bool). if fit then Some (record { bytes = content; alignment = byte_len width }) else None) (subst (λ n. fits_alignment n content ≡ true) same fits)
    ∙ ap (λ n. Some (record { bytes = content; alignment = n })) (sym same)

pub has_wrong_size : (alignment : ℕ) (width : Width) (known : ℕ) (content : List ℕ) → struct_width alignment ≡ Some width → known ≡ byte_len width
    → fits_alignment known content ≡ false → struct_fault (struct_width alignment) content ≡ Some WrongSize
has_wrong_size alignment width known content is same fits =
    ap (λ w. struct_fault w content) is
    ∙ ap (λ (fit : Bool). if fit then None else Some WrongSize) (subst (λ n. fits_alignment n content ≡ false) same fits)

-- what is known of a vector that is there
pub record ArePlains (width : Option Width) (size : ℕ) (content : List ℕ) (v : Value) : Type 0 where
  pub known : Width
  pub is : width ≡ Some known
  pub fits : fits_items (byte_len known) size content ≡ true
  pub same : value.plain_list size (byte_len known) (items_of size content) ≡ v

pub plains_made : (width : Option Width) (size : ℕ) (content : List ℕ) (v : Value) → plains_value width size content ≡ Some v → ArePlains width size content v
plains_made None size content v e = (cc)
plains_made (Some width) size content v e = by_test (fits_items (byte_len width) size content) refl e
  where
    list : Value
    list = value.plain_list size (byte_len width) (items_of size content)

    by_test : (fit : Bool) → fits_items (byte_len width) size content ≡ fit → (if fit then Some list else None) ≡ Some v → ArePlains (Some width) size content v
    by_test true fits e = record { known = width; is = refl; fits = fits; same = (let both : list ≡ v = cc in both) }
    by_test false fits e = (cc)

pub plains_good : (width : Option Width) (size : ℕ) (content : List ℕ) (v : Value) → plains_value width size content ≡ Some v → plains_fault width size content ≡ None
plains_good width size content v e =
    let made = plains_made width size content v e in
    ap (λ w. plains_fault w size content) made.is ∙ ap (λ (fit : Bool). if fit then None else Some WrongSize) made.fits

pub plains_there : (width : Option Width) (size : ℕ) (content : List ℕ) → plains_fault width size content ≡ None → (v : Value) × (plains_value width size content ≡ Some v)
plains_there None size content e = (cc)
plains_there (Some width) size content e = by_test (fits_items (byte_len width) size content) e
  where
    list : Value
    list = value.plain_list size (byte_len width) (items_of size content)

    by_test : (fit : Bool) → (if fit then None else Some WrongSize) ≡ None → (v : Value) × ((if fit then Some list else None) ≡ Some v)
    by_test true e = (list, refl)
    by_test false e = (cc)

-- the alignment and the size of a vector that has no error
pub record PlainsFit (alignment size : ℕ) (content : List ℕ) : Type 0 where
  pub known : Width
  pub is : byte_len known ≡ alignment
  pub fits : fits_items (byte_len known) size content ≡ true

pub plains_fit : (alignment size : ℕ) (content : List ℕ) → plains_fault (struct_width alignment) size content ≡ None → PlainsFit alignment size content
plains_fit alignment size content e =
    let there = plains_there (struct_width alignment) size content e in
    let made = plains_made (struct_width alignment) size content there.0 there.1 in
    record { known = made.known; is = alignment_known alignment made.known made.is; fits = made.fits }
