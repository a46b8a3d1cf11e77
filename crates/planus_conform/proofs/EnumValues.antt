-- What bytes show of enums.
use Rattle.std.proofs.Common.{◌≡◌, ℕ, Bool, true, false, List, [], ◌∷◌, map, refl, sym, ap, subst, ◌∙◌, Option, Some, None, Ok, ◌⊎◌, inl, inr, zero-mul}
use Rattle.std.specs.Prelude.{◌==◌, ◌&&◌, ◌||◌, not, if◌then◌else◌}
use Rattle.std.specs.List.{list_any, list_all, AllByRecursion, IsDistinct}
use Rattle.std.specs.Str.{bytes_eq}
use Rattle.std.proofs.lemmas.Bool.{eqb-true, eq-eqb}
use Rattle.planus_inspect.specs.Shown.{bits_of}
use Rattle.planus_schema.specs.declared.number.Number.{Number}
use Rattle.planus_schema.specs.declared.scalar.Scalar.{Scalar}
use Rattle.planus_schema.specs.declared.schema.Base.TheVariants as base
use Rattle.planus_schema.specs.declared.schema.Declared.{Declared}
use Rattle.planus_schema.specs.declared.schema.Enum.{Enum}
use Rattle.planus_schema.specs.declared.schema.EnumValue.{EnumValue}
use Rattle.planus_schema.specs.Numbers.{scalar_size, fits}
use Rattle.planus_resolve.specs.Enums.{number_of_value, same_number as same_of}
use Rattle.planus_conform.specs.declared.breaks.Change.{Change}
use Rattle.planus_conform.specs.declared.breaks.Change.TheVariants as change
use Rattle.planus_conform.specs.declared.breaks.Way.{Way}
use Rattle.planus_conform.specs.declared.breaks.Way.TheVariants as way
use Rattle.planus_conform.specs.Found.{Found, known, stranger, item, items}
use Rattle.planus_conform.specs.Values.{body_at, enum_in, is_value, is_known, number_found, enum_found, stride}
use Rattle.planus_conform.specs.Reads.{answer}
use Rattle.planus_conform.specs.Alike.{Same, is_excused, SameAnswers}
use Rattle.planus_conform.specs.Types.{scalar_code, same_truth}
use Rattle.planus_conform.specs.Defaults.{same_number}
use Rattle.planus_conform.specs.Breaks.{meets_old, meets_new, change_if, has_number, is_value_moved, value_change}
use Rattle.planus_conform.specs.EnumWitnesses.{bytes_of, one_number, name_in, name_found, name_read, AreEnums, ValuesShow, RemovedShow, AddedShow}
use Rattle.planus_conform.proofs.Parts.{both_true, and_true, not_true, or_right, same_truths, same_scalars, number_is_same, no_enum_change}
use Rattle.planus_conform.proofs.NoBreaks.{IsIn, contained, none_moved, and_false_left, and_false_right, or_none}
use Rattle.planus_conform.proofs.EnumNumbers.{is_number_of, own_bits, bits_read}

abbrev bits : Scalar → EnumValue → ℕ
bits s v = bits_of (scalar_size s) v.number

abbrev AreNumbers : Scalar → List EnumValue → Type 0
AreNumbers s vs = (v : EnumValue) → IsIn v vs → is_number_of s v.number ≡ true

are_numbers : (s : Scalar) (vs : List EnumValue) → list_all (λ v. fits s v.number) vs ≡ true
    → list_all (λ v. not (v.number.negative && v.number.magnitude == 0)) vs ≡ true → AreNumbers s vs
are_numbers s [] a b v i = absurd i
are_numbers s (u ∷ us) a b v (inl e) =
    subst (λ x. is_number_of s x.number ≡ true) (sym e)
    (and_true (fits s u.number) (not (u.number.negative && u.number.magnitude == 0)) (both_true _ _ a).0 (both_true _ _ b).0)
are_numbers s (u ∷ us) a b v (inr i) = are_numbers s us (both_true _ _ a).1 (both_true _ _ b).1 v i

-- ---- what is found

found_number : (ds : List Declared) (i : ℕ) (e : Enum) (n : Number) → enum_in (body_at ds i) ≡ Some e → is_number_of e.scalar n ≡ true
    → answer ds (one_number i e.scalar n) (item 0 ∷ []) ≡ number_found e (Ok (bits_of (scalar_size e.scalar) n))
found_number ds i e n is x =
    ap (λ f. enum_found (enum_in (body_at ds i)) (bytes_of e.scalar n) f) (zero-mul (stride ds (base.Enum i)))
    ∙ ap (λ o. enum_found o (bytes_of e.scalar n) 0) is
    ∙ ap (number_found e) (bits_read e.scalar n x)

abbrev known_if : Bool → ℕ → Found
known_if b n = if b then known n else stranger n

-- ---- numbers among values

its_number : (s : Scalar) (vs : List EnumValue) (v : EnumValue) → IsIn v vs → is_value s vs (bits s v) ≡ true
its_number s [] v i = absurd i
its_number s (u ∷ us) v (inl e) =
    ap (λ b. b || is_value s us (bits s v)) (eq-eqb (bits s u) (bits s v) (ap (bits s) (sym e)))
its_number s (u ∷ us) v (inr i) = or_right (bits s u == bits s v) (is_value s us (bits s v)) (its_number s us v i)

numbered : (us : List EnumValue) (v : EnumValue) → IsIn v us → has_number us v.number ≡ true
numbered [] v i = absurd i
numbered (u ∷ us) v (inl e) =
    ap (λ b. b || has_number us v.number) (subst (λ z. same_number v.number z.number ≡ true) e (number_is_same v.number))
numbered (u ∷ us) v (inr i) = or_right (same_number v.number u.number) (has_number us v.number) (numbered us v i)

not_both : (b : Bool) → b ≡ true → b ≡ false → ⊥
not_both true e f = absurd cc
not_both false e f = absurd cc

no_value : (s : Scalar) (us : List EnumValue) (n : Number) → AreNumbers s us → is_number_of s n ≡ true → has_number us n ≡ false → is_value s us (bits_of (scalar_size s) n) ≡ false
no_value s [] n a x h = refl
no_value s (u ∷ us) n a x h =
    by_test (no_value s us n (λ v i. a v (inr i)) x (or_none (same_number n u.number) (has_number us n) h).1) (bits s u == bits_of (scalar_size s) n) refl
  where
    by_test : is_value s us (bits_of (scalar_size s) n) ≡ false → (t : Bool) → (bits s u == bits_of (scalar_size s) n) ≡ t → (t || is_value s us (bits_of (scalar_size s) n)) ≡ false
    by_test rest true e =
        let same : u.number ≡ n = own_bits s u.number n (a u (inl refl)) x (eqb-true (bits s u) (bits_of (scalar_size s) n) e) in
        absurd (not_both (same_number n u.number) (subst (λ k. same_number n k ≡ true) (sym same) (number_is_same n)) (or_none (same_number n u.number) (has_number us n) h).0)
    by_test rest false e = rest

-- ---- names of numbers

same_itself : (n : Number) → same_of n n ≡ true
same_itself n = and_true (if n.negative then n.negative else not n.negative) (n.magnitude == n.magnitude) (sign n.negative) (eq-eqb n.magnitude n.magnitude refl)
  where
    sign : (b : Bool) → (if b then b else not b) ≡ true
    sign true = refl
    sign false = refl

apart : (n : Number) (us : List EnumValue) → AllByRecursion (λ k. same_of n k ≡ false) (map number_of_value us) → (v : EnumValue) → IsIn v us → same_of n v.number ≡ false
apart n [] a v i = absurd i
apart n (u ∷ us) a v (inl e) = subst (λ z. same_of n z.number ≡ false) (sym e) a.0
apart n (u ∷ us) a v (inr i) = apart n us a.1 v i

own_name : (s : Scalar) (vs : List EnumValue) → IsDistinct same_of (map number_of_value vs) → AreNumbers s vs → (v : EnumValue) → IsIn v vs → name_in s vs (bits s v) ≡ Some v.name.items
unfolding IsDistinct
own_name s [] d a v i = absurd i
own_name s (u ∷ us) d a v (inl e) =
    subst (λ z. name_in s (u ∷ us) (bits s z) ≡ Some z.name.items) (sym e)
    (ap (λ b. if b then Some u.name.items else name_in s us (bits s u)) (eq-eqb (bits s u) (bits s u) refl))
own_name s (u ∷ us) d a v (inr i) = by_test (own_name s us d.1 (λ x k. a x (inr k)) v i) (bits s u == bits s v) refl
  where
    by_test : name_in s us (bits s v) ≡ Some v.name.items → (t : Bool) → (bits s u == bits s v) ≡ t → (if t then Some u.name.items else name_in s us (bits s v)) ≡ Some v.name.items
    by_test rest true e =
        let same : u.number ≡ v.number = own_bits s u.number v.number (a u (inl refl)) (a v (inr i)) (eqb-true (bits s u) (bits s v) e) in
        absurd (not_both (same_of u.number v.number) (subst (λ k. same_of u.number k ≡ true) same (same_itself u.number)) (apart u.number us d.0 v i))
    by_test rest false e = rest

abbrev Named : Scalar → List EnumValue → ℕ → List ℕ → Type 0
Named s us n w = (u : EnumValue) × IsIn u us × (bits s u ≡ n) × (u.name.items ≡ w)

abbrev name_of : Option (List ℕ) → List ℕ
name_of None = []
name_of (Some w) = w

has_name : (s : Scalar) (us : List EnumValue) (n : ℕ) (w : List ℕ) → name_in s us n ≡ Some w → Named s us n w
has_name s [] n w e = absurd (let is : None ≡ Some w = e in cc)
has_name s (u ∷ us) n w e = by_test (has_name s us n w) (bits s u == n) refl e
  where
    by_test : (name_in s us n ≡ Some w → Named s us n w) → (t : Bool) → (bits s u == n) ≡ t → (if t then Some u.name.items else name_in s us n) ≡ Some w → Named s (u ∷ us) n w
    by_test rest true k e = (u, inl refl, eqb-true (bits s u) n k, ap name_of e)
    by_test rest false k e = let more = rest e in (more.0, inr more.1, more.2, more.3)

abbrev moved_by : List EnumValue → List ℕ → Number → Bool
moved_by us w n = list_any (λ u. bytes_eq u.name.items w && not (same_number n u.number)) us

-- none of these values has this name and this number
none_there : (us : List EnumValue) (v : EnumValue) (met : Bool) (c : Change) → IsDistinct bytes_eq (map (λ u. u.name.items) us)
    → value_change met us v ≡ Some c → (u : EnumValue) → IsIn u us → u.name.items ≡ v.name.items → u.number ≡ v.number → ⊥
none_there us v met c d e u i name num = by_test (is_value_moved us v) (has_number us v.number) stays still e
  where
    stays : is_value_moved us v ≡ false
    stays =
        ap (λ w. moved_by us w v.number) (sym name) ∙ ap (λ n. moved_by us u.name.items n) (sym num)
        ∙ none_moved (λ u. u.name.items)
        (λ u v. bytes_eq u.name.items v.name.items && not (same_number v.number u.number))
        (λ u. and_false_right (bytes_eq u.name.items u.name.items) (not (same_number u.number u.number)) (ap not (number_is_same u.number)))
        (λ u v e. and_false_left (bytes_eq u.name.items v.name.items) (not (same_number v.number u.number)) e)
        us d u i

    still : has_number us v.number ≡ true
    still = subst (λ n. has_number us n ≡ true) num (numbered us u i)

    by_test : (p q : Bool) → p ≡ false → q ≡ true → (if p then Some change.Moved else change_if (met && not q) change.ValueRemoved) ≡ Some c → ⊥
    by_test true q x y e = absurd cc
    by_test p false x y e = absurd cc
    by_test false true x y e = no_change met e
      where
        no_change : (b : Bool) → change_if (b && false) change.ValueRemoved ≡ Some c → ⊥
        no_change true e = absurd cc
        no_change false e = absurd cc

-- ---- values

abbrev numbers_old : (old new : List Declared) (i j : ℕ) (e g : Enum) → AreEnums old new i j e g → AreNumbers e.scalar e.values.items
numbers_old old new i j e g r = are_numbers e.scalar e.values.items r.old_sound.within r.old_zero

abbrev numbers_new : (old new : List Declared) (i j : ℕ) (e g : Enum) → AreEnums old new i j e g → AreNumbers g.scalar g.values.items
numbers_new old new i j e g r = are_numbers g.scalar g.values.items r.new_sound.within r.new_zero

one_type : (old new : List Declared) (i j : ℕ) (e g : Enum) → AreEnums old new i j e g → (e.scalar ≡ g.scalar) × (e.flags ≡ g.flags)
one_type old new i j e g r =
    let parts = no_enum_change change.NumberTypeChanged change.FlagsChanged (scalar_code e.scalar == scalar_code g.scalar) (same_truth e.flags g.flags) r.unchanged in
    (same_scalars e.scalar g.scalar parts.0, same_truths e.flags g.flags parts.1)

is_found : (e : Enum) (v : EnumValue) → IsIn v e.values.items → number_found e (Ok (bits e.scalar v)) ≡ known (bits e.scalar v)
is_found e v i =
    ap (λ b. known_if b (bits e.scalar v)) (or_right e.flags (is_value e.scalar e.values.items (bits e.scalar v)) (its_number e.scalar e.values.items v i))

pub values_show : (w : Way) (old new : List Declared) → ValuesShow w old new
values_show w old new i j e g v c r there e' = record { before = before; after = after }
  where
    at : IsIn v e.values.items
    at = contained e.values.items v there

    scalars : e.scalar ≡ g.scalar
    scalars = (one_type old new i j e g r).0

    x : is_number_of e.scalar v.number ≡ true
    x = numbers_old old new i j e g r v at

    y : is_number_of g.scalar v.number ≡ true
    y = subst (λ s. is_number_of s v.number ≡ true) scalars x

    before : name_read old i e v.number ≡ Some v.name.items
    before =
        ap (name_found e) (found_number old i e v.number r.old_is x ∙ is_found e v at)
        ∙ own_name e.scalar e.values.items r.old_sound.distinct (numbers_old old new i j e g r) v at

    named : (b : Bool) → name_found g (known_if b (bits g.scalar v)) ≡ Some v.name.items → ⊥
    named true k =
        let u = has_name g.scalar g.values.items (bits g.scalar v) v.name.items k in
        none_there g.values.items v (meets_old w && not e.flags) c r.new_sound.names e' u.0 u.1 u.3
        (own_bits g.scalar u.0.number v.number (numbers_new old new i j e g r u.0 u.1) y u.2)
    named false k = absurd (let is : None ≡ Some v.name.items = k in cc)

    after : name_read new j g v.number ≡ Some v.name.items → ⊥
    after k = named (is_known g (bits g.scalar v)) (sym (ap (name_found g) (found_number new j g v.number r.new_is y)) ∙ k)

-- ---- numbers that one schema's code alone knows

abbrev Agree : Way → Found → Found → Type 0
Agree w x y = (is_excused w x y ≡ true) ⊎ Same x y

vectors_not_excused : (w : Way) (i j : ℕ) (s t : Scalar) (n : Number) → is_excused w (one_number i s n) (one_number j t n) ≡ false
vectors_not_excused way.Both i j s t n = refl
vectors_not_excused way.Backward i j s t n = refl
vectors_not_excused way.Forward i j s t n = refl

once : (w : Way) (old new : List Declared) (i j : ℕ) (s t : Scalar) (n : Number) → SameAnswers w old new (one_number i s n) (one_number j t n) (item 0 ∷ [])
    → Agree w (answer old (one_number i s n) (item 0 ∷ [])) (answer new (one_number j t n) (item 0 ∷ []))
once w old new i j s t n (inl e) =
    inl (subst (λ b. (b || is_excused w (answer old (one_number i s n) (item 0 ∷ [])) (answer new (one_number j t n) (item 0 ∷ []))) ≡ true) (vectors_not_excused w i j s t n) e)
once w old new i j s t n (inr a) = inr a

new_fails : (w : Way) (n k : ℕ) → meets_old w ≡ true → Agree w (known n) (stranger k) → ⊥
new_fails way.Both n k m (inl e) = absurd cc
new_fails way.Backward n k m (inl e) = absurd cc
new_fails way.Both n k m (inr e) = absurd cc
new_fails way.Backward n k m (inr e) = absurd cc
new_fails way.Forward n k m a = absurd cc

old_fails : (w : Way) (n k : ℕ) → meets_new w ≡ true → Agree w (stranger n) (known k) → ⊥
old_fails way.Both n k m (inl e) = absurd cc
old_fails way.Forward n k m (inl e) = absurd cc
old_fails way.Both n k m (inr e) = absurd cc
old_fails way.Forward n k m (inr e) = absurd cc
old_fails way.Backward n k m a = absurd cc

is_strange : (e : Enum) (n : Number) → e.flags ≡ false → AreNumbers e.scalar e.values.items → is_number_of e.scalar n ≡ true → has_number e.values.items n ≡ false
    → number_found e (Ok (bits_of (scalar_size e.scalar) n)) ≡ stranger (bits_of (scalar_size e.scalar) n)
is_strange e n f a x h =
    ap (λ b. known_if (b || is_value e.scalar e.values.items (bits_of (scalar_size e.scalar) n)) (bits_of (scalar_size e.scalar) n)) f
    ∙ ap (λ b. known_if b (bits_of (scalar_size e.scalar) n)) (no_value e.scalar e.values.items n a x h)

removed_is : (met p q : Bool) → (if p then Some change.Moved else change_if (met && not q) change.ValueRemoved) ≡ Some change.ValueRemoved → (met ≡ true) × (q ≡ false)
removed_is met true q e = absurd cc
removed_is true false false e = (refl, refl)
removed_is true false true e = absurd cc
removed_is false false q e = absurd cc

pub removed_show : (w : Way) (old new : List Declared) → RemovedShow w old new
removed_show w old new i j e g v r there c same =
    new_fails w (bits e.scalar v) (bits g.scalar v) met.0
    (subst (λ z. Agree w (known (bits e.scalar v)) z) (found_number new j g v.number r.new_is y ∙ is_strange g v.number flags (numbers_new old new i j e g r) y parts.1)
    (subst (λ z. Agree w z (answer new (one_number j g.scalar v.number) (item 0 ∷ []))) (found_number old i e v.number r.old_is x ∙ is_found e v at)
    (once w old new i j e.scalar g.scalar v.number same)))
  where
    at : IsIn v e.values.items
    at = contained e.values.items v there

    x : is_number_of e.scalar v.number ≡ true
    x = numbers_old old new i j e g r v at

    y : is_number_of g.scalar v.number ≡ true
    y = subst (λ s. is_number_of s v.number ≡ true) (one_type old new i j e g r).0 x

    parts : ((meets_old w && not e.flags) ≡ true) × (has_number g.values.items v.number ≡ false)
    parts = removed_is (meets_old w && not e.flags) (is_value_moved g.values.items v) (has_number g.values.items v.number) c

    met : (meets_old w ≡ true) × (not e.flags ≡ true)
    met = both_true (meets_old w) (not e.flags) parts.0

    flags : g.flags ≡ false
    flags = sym (one_type old new i j e g r).1 ∙ not_true e.flags met.1

pub added_show : (w : Way) (old new : List Declared) → AddedShow w old new
added_show w old new i j e g u r there c same =
    old_fails w (bits e.scalar u) (bits g.scalar u) met.0
    (subst (λ z. Agree w (stranger (bits e.scalar u)) z) (found_number new j g u.number r.new_is y ∙ is_found g u at)
    (subst (λ z. Agree w z (answer new (one_number j g.scalar u.number) (item 0 ∷ []))) (found_number old i e u.number r.old_is x ∙ is_strange e u.number (not_true e.flags met.1) (numbers_old old new i j e g r) x (not_true (has_number e.values.items u.number) parts.1))
    (once w old new i j e.scalar g.scalar u.number same)))
  where
    at : IsIn u g.values.items
    at = contained g.values.items u there

    y : is_number_of g.scalar u.number ≡ true
    y = numbers_new old new i j e g r u at

    x : is_number_of e.scalar u.number ≡ true
    x = subst (λ s. is_number_of s u.number ≡ true) (sym (one_type old new i j e g r).0) y

    parts : ((meets_new w && not e.flags) ≡ true) × (not (has_number e.values.items u.number) ≡ true)
    parts = both_true (meets_new w && not e.flags) (not (has_number e.values.items u.number)) c

    met : (meets_new w ≡ true) × (not e.flags ≡ true)
    met = both_true (meets_new w) (not e.flags) parts.0
