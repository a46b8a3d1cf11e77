-- Tests of parts, and what they show.
use Rattle.std.proofs.Common.{◌≡◌, ℕ, suc, ◌+◌, ◌<◌, Bool, true, false, List, [], ◌∷◌, ◌++◌, length, drop, get_or, refl, sym, ap, ◌∙◌, add-one, drop-cons, Option, Some, None, ◌⊎◌, inl, inr}
use Rattle.std.specs.Prelude.{◌==◌, ◌&&◌, ◌||◌, not, if◌then◌else◌}
use Rattle.std.specs.Str.{bytes_eq}
use Rattle.std.proofs.lemmas.Bool.{eqb-true, eq-eqb}
use Rattle.std.proofs.lemmas.Slice.Eq.{bytes_eq-Decides}
use Rattle.planus_schema.specs.declared.number.Number.{Number}
use Rattle.planus_schema.specs.declared.scalar.Scalar.{Scalar}
use Rattle.planus_schema.specs.declared.scalar.Scalar.TheVariants as scalar
use Rattle.planus_resolve.specs.Defaults.{ValueV, absent as nothing, integer, float, text, empty}
use Rattle.planus_conform.specs.Floats.{DefaultV, written, float_of}
use Rattle.planus_conform.specs.Matching.{is_index}
use Rattle.planus_conform.specs.Types.{scalar_code, same_count, same_truth}
use Rattle.planus_conform.specs.Defaults.{same_number, same_value, same_given}
use Rattle.planus_conform.specs.Breaks.{noted, change_if}
use Rattle.planus_conform.specs.declared.breaks.Change.{Change}
use Rattle.planus_conform.specs.declared.breaks.Place.{Place}

pub drop_next : {A : Type 0} (xs : List A) (i : ℕ) (x : A) → i < length xs → x ≡ get_or xs i x → drop i xs ≡ x ∷ drop (i + 1) xs
drop_next xs i x h e = rw add-one (drop-cons xs i x h ∙ ap (λ y. y ∷ drop (suc i) xs) (sym e))

pub both_true : (a b : Bool) → (a && b) ≡ true → (a ≡ true) × (b ≡ true)
both_true true true e = (refl, refl)
both_true true false e = absurd cc
both_true false b e = absurd cc

pub not_true : (a : Bool) → not a ≡ true → a ≡ false
not_true true e = absurd cc
not_true false e = refl

pub both_nothing : {A : Type 0} (xs ys : List A) → xs ++ ys ≡ [] → (xs ≡ []) × (ys ≡ [])
both_nothing [] ys e = (refl, e)
both_nothing (x ∷ xs) ys e = absurd cc

pub same_truths : (a b : Bool) → same_truth a b ≡ true → a ≡ b
same_truths true true e = refl
same_truths true false e = absurd cc
same_truths false true e = absurd cc
same_truths false false e = refl

pub same_bytes : (xs ys : List ℕ) → bytes_eq xs ys ≡ true → xs ≡ ys
same_bytes xs ys e = (bytes_eq-Decides xs ys).0 e

made : Bool → ℕ → Number
made b n = record { negative = b; magnitude = n }

pub same_numbers : (a b : Number) → same_number a b ≡ true → a ≡ b
unfolding made
same_numbers a b e =
    let parts = both_true (same_truth a.negative b.negative) (a.magnitude == b.magnitude) e in
    ap (λ s. made s a.magnitude) (same_truths a.negative b.negative parts.0)
    ∙ ap (λ n. made b.negative n) (eqb-true a.magnitude b.magnitude parts.1)

pub same_counts : (a b : Option ℕ) → same_count a b ≡ true → a ≡ b
same_counts None None e = refl
same_counts (Some a) (Some b) e = ap Some (eqb-true a b e)
same_counts a b e = absurd cc

pub count_is_same : (o : Option ℕ) → same_count o o ≡ true
count_is_same None = refl
count_is_same (Some n) = eq-eqb n n refl

pub same_values : (v w : ValueV) → same_value v w ≡ true → v ≡ w
same_values nothing nothing e = refl
same_values (integer a) (integer b) e = ap integer (same_numbers a b e)
same_values (float a) (float b) e = ap float (same_bytes a b e)
same_values (text a) (text b) e = ap text (same_bytes a b e)
same_values empty empty e = refl
same_values v w e = absurd cc

pub same_givens : (v w : DefaultV) → same_given v w ≡ true → v ≡ w
same_givens (written v) (written w) e = ap written (same_values v w e)
same_givens (float_of a) (float_of b) e = ap float_of (eqb-true a b e)
same_givens v w e = absurd cc

decoded : ℕ → Scalar
decoded n =
    if n == 0 then scalar.Bool else if n == 1 then scalar.Byte else if n == 2 then scalar.UByte
    else if n == 3 then scalar.Short else if n == 4 then scalar.UShort
    else if n == 5 then scalar.Int else if n == 6 then scalar.UInt
    else if n == 7 then scalar.Long else if n == 8 then scalar.ULong
    else if n == 9 then scalar.Float else scalar.Double

decoded_code : (s : Scalar) → decoded (scalar_code s) ≡ s
unfolding decoded
decoded_code scalar.Bool = refl
decoded_code scalar.Byte = refl
decoded_code scalar.UByte = refl
decoded_code scalar.Short = refl
decoded_code scalar.UShort = refl
decoded_code scalar.Int = refl
decoded_code scalar.UInt = refl
decoded_code scalar.Long = refl
decoded_code scalar.ULong = refl
decoded_code scalar.Float = refl
decoded_code scalar.Double = refl

pub same_scalars : (s t : Scalar) → (scalar_code s == scalar_code t) ≡ true → s ≡ t
same_scalars s t e =
    sym (decoded_code s) ∙ ap decoded (eqb-true (scalar_code s) (scalar_code t) e) ∙ decoded_code t

pub no_change : (x y z u : Change) (a b c d : Bool)
    → (if not a then Some x else if not b then Some y else if not c then Some z else change_if (not d) u) ≡ None
    → (a ≡ true) × (b ≡ true) × (c ≡ true) × (d ≡ true)
no_change x y z u true true true true e = (refl, refl, refl, refl)
no_change x y z u true true true false e = absurd cc
no_change x y z u true true false d e = absurd cc
no_change x y z u true false c d e = absurd cc
no_change x y z u false b c d e = absurd cc

pub no_enum_change : (x y : Change) (a b : Bool) → (if not a then Some x else change_if (not b) y) ≡ None → (a ≡ true) × (b ≡ true)
no_enum_change x y true true e = (refl, refl)
no_enum_change x y true false e = absurd cc
no_enum_change x y false b e = absurd cc

pub noted_none : (p : Place) (o : Option Change) → noted p o ≡ [] → o ≡ None
noted_none p None e = refl
noted_none p (Some c) e = absurd cc

pub is_index_some : (o : Option ℕ) (j : ℕ) → is_index o j ≡ true → o ≡ Some j
is_index_some None j e = absurd cc
is_index_some (Some i) j e = ap Some (eqb-true i j e)

pub none_if : (b : Bool) (c : Change) → change_if b c ≡ None → b ≡ false
none_if true c e = absurd cc
none_if false c e = refl

pub none_if_not : (b : Bool) (c : Change) → change_if (not b) c ≡ None → b ≡ true
none_if_not true c e = refl
none_if_not false c e = absurd cc

pub and_true : (a b : Bool) → a ≡ true → b ≡ true → (a && b) ≡ true
and_true true true e f = refl
and_true true false e f = absurd cc
and_true false b e f = absurd cc

pub or_right : (a b : Bool) → b ≡ true → (a || b) ≡ true
or_right true b e = refl
or_right false b e = e

pub or_left : (a b : Bool) → a ≡ true → (a || b) ≡ true
or_left true b e = refl
or_left false b e = absurd cc

pub true_or_false : (b : Bool) → (b ≡ true) ⊎ (b ≡ false)
true_or_false true = inl refl
true_or_false false = inr refl

pub truth_is_same : (b : Bool) → same_truth b b ≡ true
truth_is_same true = refl
truth_is_same false = refl

pub number_is_same : (n : Number) → same_number n n ≡ true
number_is_same n = rw (truth_is_same n.negative, eq-eqb n.magnitude n.magnitude refl) refl

pub value_is_same : (v : ValueV) → same_value v v ≡ true
value_is_same nothing = refl
value_is_same (integer n) = number_is_same n
value_is_same (float w) = (bytes_eq-Decides w w).1 refl
value_is_same (text w) = (bytes_eq-Decides w w).1 refl
value_is_same empty = refl

pub given_is_same : (v : DefaultV) → same_given v v ≡ true
given_is_same (written v) = value_is_same v
given_is_same (float_of n) = eq-eqb n n refl
