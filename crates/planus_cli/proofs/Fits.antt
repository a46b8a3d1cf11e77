-- What is proposed where a type is expected may stand there.
use Rattle.std.proofs.Common.{◌≡◌, ℕ, suc, ◌+◌, List, [], ◌∷◌, Bool, true, false, Some, cond, refl, arith, inl, inr, subst}
use Rattle.std.specs.Prelude.{◌&&◌, slice_get}
use Rattle.std.specs.List.{All, list_all}
use Rattle.std.proofs.lemmas.List.Elements.{All-nil, All-cons, All-append, All-weaker}
use Rattle.planus_syntax.specs.Values.{Name}
use Rattle.planus_schema.specs.Numbers.{scalar_named}
use Rattle.planus_resolve.specs.Names.{HeadV, base_of_word}
use Rattle.planus_resolve.specs.Fitting.{is_fit, head_fits}
use Rattle.planus_resolve.specs.declared.expected.Expected.{Expected}
use Rattle.planus_resolve.specs.declared.expected.Expected.TheVariants as expected
use Rattle.planus_cli.specs.Near.{language_types, fitting, candidates, IsFitting}

one_is : (t : Bool) (p : Name → Bool) (name : Name) (names : List Name) → p name ≡ t → (t && list_all p names) ≡ true
    → (list_all p names ≡ true → All (λ name. p name ≡ true) names) → All (λ name. p name ≡ true) (name ∷ names)
one_is true p name names is all rest = All-cons (λ name. p name ≡ true) name names is (rest all)
one_is false p name names is all rest = (cc)

each_is : (p : Name → Bool) (names : List Name) → list_all p names ≡ true → All (λ name. p name ≡ true) names
each_is p [] all = All-nil (λ name. p name ≡ true)
each_is p (name ∷ names) all = one_is (p name) p name names refl all (each_is p names)

words_fit : (e : Expected) → list_all (λ name. is_fit e (base_of_word name)) (language_types e) ≡ true
unfolding scalar_named
words_fit expected.AnyType = refl
words_fit (expected.InStruct index) = refl
words_fit expected.Table = refl
words_fit expected.Record = refl
words_fit expected.Member = refl

one_fits : (t : Bool) (P : Name → Type 0) (name : Name) (names : List Name) → (t ≡ true → P name) → All P names
    → All P (cond t (name ∷ names) names)
one_fits true P name names this rest = All-cons P name names (this refl) rest
one_fits false P name names this rest = rest

-- the declarations from the `index`-th on
heads_fit : (e : Expected) (P : Name → Type 0) (index : ℕ) (hs : List HeadV)
    → ((k : ℕ) (h : HeadV) → slice_get hs k ≡ Some h → head_fits e (index + k) h ≡ true → P h.name)
    → All P (fitting e index hs)
heads_fit e P index [] each = All-nil P
heads_fit e P index (h ∷ hs) each =
    one_fits (head_fits e index h) P h.name (fitting e (suc index) hs)
    (λ fits. each 0 h refl (subst (λ i. head_fits e i h ≡ true) (let same : index ≡ index + 0 = omega arith in same) fits))
    (heads_fit e P (suc index) hs (λ k g here fits. each (suc k) g here
    (subst (λ i. head_fits e i g ≡ true) (let same : suc index + k ≡ index + suc k = omega arith in same) fits)))

pub all_fit : (e : Expected) (hs : List HeadV) → All (IsFitting e hs) (candidates e hs)
all_fit e hs =
    let words = each_is (λ name. is_fit e (base_of_word name)) (language_types e) (words_fit e) in
    All-append (IsFitting e hs) (language_types e) (fitting e 0 hs)
    (All-weaker (λ name. is_fit e (base_of_word name) ≡ true) (IsFitting e hs) (λ name fits. inl fits) (language_types e) words)
    (heads_fit e (IsFitting e hs) 0 hs (λ k h here fits. inr (record {
      index = k;
      head = h;
      here = here;
      named = refl;
      fits = subst (λ i. head_fits e i h ≡ true) (let same : 0 + k ≡ k = omega arith in same) fits;
    })))
