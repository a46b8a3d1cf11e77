-- Buckets as lists of distances.
use Rattle.std.proofs.Common.{◌≡◌, ℕ, ◌+◌, ◌-◌, ◌++◌, List, [], ◌∷◌, Option, Some, None, subst, nat_eq, Bool, true, false, cond, refl, ap, sym, ◌∙◌, Result, Ok, Err, Vec, length, get_or, inl, inr, arith}
use Rattle.std.proofs.lemmas.Grind.{common_steps}
use Rattle.std.proofs.lemmas.Bool.{cases_lt}
use Rattle.std.proofs.lemmas.Bool.Decides.{eqb_tells}
use Rattle.std.specs.declared.alloc.Global.{Global}
use Rattle.std.specs.Result.{OnErr, OnOk}
use Rattle.std.specs.Option.{option_map, unwrap_or, MatchOption}
use Rattle.std.specs.Map.{lookup, set_value}
use Rattle.std.proofs.lemmas.Map.Made.{lookup-map_values}
use Rattle.std.proofs.lemmas.Map.Steps.{set_value_same}
use Rattle.planus_back.specs.Buckets.{lists_of, listed_at, distances_at, AddsAt, AreKeys, FoundAmong}

abbrev pub items_of : Vec ℕ Global → List ℕ
items_of distances = distances.items

pub lookup-listed : (test : ℕ → Bool) (es : List (ℕ × Vec ℕ Global)) → lookup test (lists_of es) ≡ option_map items_of (lookup test es)
lookup-listed test es = lookup-map_values items_of test es

listed-set : (test : ℕ → Bool) (es : List (ℕ × Vec ℕ Global)) (w : Vec ℕ Global) → lists_of (set_value test es w) ≡ set_value test (lists_of es) (items_of w)
listed-set test [] w = refl
listed-set test (e ∷ es) w =
    elim (test e.0) as (λ b. lists_of (cond b ((e.0, w) ∷ es) (e ∷ set_value test es w)) ≡ cond b ((e.0, items_of w) ∷ lists_of es) ((e.0, items_of e.1) ∷ set_value test (lists_of es) (items_of w))) [
      | true ↦ refl
      | false ↦ ap (λ fs. (e.0, items_of e.1) ∷ fs) (listed-set test es w)
    ]

pub listed_same : (test : ℕ → Bool) (es fs : List (ℕ × Vec ℕ Global)) (v w : Vec ℕ Global) → fs ≡ set_value test es w → lookup test es ≡ Some v → items_of w ≡ items_of v
    → lists_of fs ≡ lists_of es
listed_same test es fs v w e found same =
    rw e (listed-set test es w ∙ set_value_same test (lists_of es) (items_of w) (lookup-listed test es ∙ ap (option_map items_of) found ∙ ap Some (sym same)))

pub at_listed : (h : ℕ) (es : List (ℕ × Vec ℕ Global)) (o : Option (Vec ℕ Global)) → lookup (nat_eq h) es ≡ o → listed_at (lists_of es) h ≡ unwrap_or (option_map items_of o) []
at_listed h es o e = ap (λ x. unwrap_or x []) (lookup-listed (nat_eq h) es ∙ ap (option_map items_of) e)

chosen : (b : Bool) (w : Vec ℕ Global) (o : Option (Vec ℕ Global)) → unwrap_or (option_map items_of (cond b (Some w) o)) [] ≡ cond b (items_of w) (unwrap_or (option_map items_of o) [])
chosen true w o = refl
chosen false w o = refl

pub adds_aside : (h d : ℕ) (es fs : List (ℕ × Vec ℕ Global)) (o : Option (Vec ℕ Global)) (w : Vec ℕ Global)
    → ((q : ℕ) → lookup (nat_eq q) fs ≡ cond (nat_eq h q) (Some w) (lookup (nat_eq q) es)) → lookup (nat_eq h) es ≡ o
    → items_of w ≡ unwrap_or (option_map items_of o) [] ++ d ∷ [] → AddsAt (listed_at (lists_of es)) h d (listed_at (lists_of fs))
adds_aside h d es fs o w puts was is q =
    at_listed q fs _ (puts q) ∙ chosen (nat_eq h q) w (lookup (nat_eq q) es) ∙ ap (cond (nat_eq h q) (items_of w)) (sym (at_listed q es _ refl))
    ∙ ap (λ there. cond (nat_eq h q) there (listed_at (lists_of es) q)) (is ∙ ap (λ there. there ++ d ∷ []) (sym (at_listed h es o was)))

module _ (h d : ℕ) (ls ms : List (ℕ × ℕ)) (puts : (q : ℕ) → lookup (nat_eq q) ms ≡ cond (nat_eq h q) (Some d) (lookup (nat_eq q) ls)) where
  none_behind : (xs : List ℕ) → xs ++ d ∷ [] ≡ (xs ++ []) ++ d ∷ []
  none_behind xs = grind (arith, common_steps)

  pub adds_first : (es : List (ℕ × List ℕ)) → lookup (nat_eq h) ls ≡ None → AddsAt (distances_at ls es) h d (distances_at ms es)
  adds_first es none q = elim (eqb_tells h q) [
    | inl w ↦ rw (puts q, w.0, none, ← w.1) (none_behind (listed_at es h))
    | inr w ↦ rw (puts q, w.0) refl
  ]

  pub adds_behind : (es fs : List (ℕ × List ℕ)) (b : ℕ) → lookup (nat_eq h) ls ≡ Some b → AddsAt (listed_at es) h b (listed_at fs) → AddsAt (distances_at ls es) h d (distances_at ms fs)
  adds_behind es fs b some adds q = elim (eqb_tells h q) [
    | inl w ↦ rw (adds q, puts q, w.0, some) refl
    | inr w ↦ rw (adds q, puts q, w.0) refl
  ]

pub both_ok : {T E P Q R : Type 0} (r : Result T E) → (P → Q → R) → OnOk r P → OnOk r Q → OnOk r R
both_ok (Ok x) f p q = f p q
both_ok (Err e) f p q = tt

pub on_err : {T E P Q : Type 0} (r : Result T E) → (P → Q) → OnErr r P → OnErr r Q
on_err (Ok x) f p = tt
on_err (Err e) f p = f p

pub on_refusal : {T E P : Type 0} (r : Result T E) → P → OnErr r P
on_refusal (Ok x) p = tt
on_refusal (Err e) p = p

pub if_some : {X : Type 0} (o : Option X) (x : X) (P : Type 0) (Q : X → Type 0) → o ≡ Some x → MatchOption o P Q → Q x
if_some None x P Q is h = (cc)
if_some (Some y) x P Q is h = let same : y ≡ x = cc in subst Q same h

module _ (key_in : List ℕ → Option (List ℕ)) (bytes key xs ys : List ℕ) where
  pub found_last : (d : ℕ) → FoundAmong key_in ys bytes key (Some d) → FoundAmong key_in (xs ++ ys) bytes key (Some d)
  found_last d found = ((length xs + found.0.0, grind (arith, common_steps, found.0.1), grind (arith, common_steps, found.0.1, found.0.2)), found.1)

  pub found_before : (r : Option ℕ) → FoundAmong key_in ys bytes key None → FoundAmong key_in xs bytes key r → FoundAmong key_in (xs ++ ys) bytes key r
  found_before None none found = λ i below stands.
      elim (cases_lt i (length xs)) [
        | inl lt ↦ (let e : get_or (xs ++ ys) i 0 ≡ get_or xs i 0 = grind (arith, common_steps, lt) in found i lt (rw (← e) stands))
        | inr le ↦ (let e : get_or (xs ++ ys) i 0 ≡ get_or ys (i - length xs) 0 = grind (arith, common_steps, le) in none (i - length xs) (grind (arith, common_steps, below, le)) (rw (← e) stands))
      ]
  found_before (Some d) none found = ((found.0.0, grind (arith, common_steps, found.0.1), grind (arith, common_steps, found.0.1, found.0.2)), found.1)

module _ (key_in : List ℕ → Option (List ℕ)) (bytes xs ys : List ℕ) (keys : AreKeys key_in (xs ++ ys) bytes) where
  pub keys_before : AreKeys key_in xs bytes
  keys_before i below =
      let k = keys i (grind (arith, common_steps, below)) in
      let e : get_or (xs ++ ys) i 0 ≡ get_or xs i 0 = grind (arith, common_steps, below) in
      (k.0, rw (← e) k.1)

  pub keys_last : AreKeys key_in ys bytes
  keys_last i below =
      let k = keys (length xs + i) (grind (arith, common_steps, below)) in
      let e : get_or (xs ++ ys) (length xs + i) 0 ≡ get_or ys i 0 = grind (arith, common_steps, below) in
      (k.0, rw (← e) k.1)
