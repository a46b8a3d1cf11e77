-- The index with one more declaration, and new names.
use Rattle.std.proofs.Common.{◌≡◌, ℕ, zero, suc, ◌+◌, ◌<◌, ◌≤◌, cond, Bool, true, false, List, [], ◌∷◌, ◌++◌, append_assoc, length, map, take, drop, get_or, refl, sym, ap, subst, ◌∙◌, arith, add-one}
use Rattle.std.specs.Prelude.{Option, Some, None, position, ◌||◌}
use Rattle.std.specs.BTreeMap.{BTreeMap}
use denote.Ref.{Bor}
use Rattle.planus_resolve.specs.inner.Index.{index_at}
use Rattle.planus_resolve.specs.WrongTables.{are_among}
use Rattle.planus_schema.specs.Distinct.{is_in}
use Rattle.std.specs.List.{list_any, position_from}
use Rattle.std.specs.Str.{bytes_eq}
use Rattle.std.proofs.lemmas.List.{map_push, append-nil}
use Rattle.std.proofs.lemmas.List.Folds.{list_any_more, list_any-append}
use Rattle.std.proofs.lemmas.List.Quantifiers.{position-Some}
use Rattle.planus_resolve.specs.declared.head.Head.{Head}
use Rattle.planus_resolve.specs.Names.{HeadV, head_of, has_name, index_of, is_set}
use Rattle.planus_resolve.specs.Uses.{ends_with, last_name}
use Rattle.planus_schema.specs.Distinct.{AreDistinct}
use Rattle.planus_schema.proofs.Lists.{distinct_none, distinct_push, list_any-map}
use Rattle.planus_resolve.proofs.Lists.{position-map}
use Rattle.planus_resolve.proofs.StructLemmas.{map_next, map_rest}

pub one_before : (hs : List Head) (i n : ℕ) (h : Head) (name : List ℕ) → n ≡ i + 1 → i < length hs → h ≡ get_or hs i h → cond (bytes_eq h.name.items name) (Some i) (position_from (has_name name) n (map head_of (drop n hs))) ≡ position_from (has_name name) i (map head_of (drop i hs))
one_before hs i n h name e l is =
    rw e (sym (ap (position_from (has_name name) i) (map_rest head_of hs i h l is)))

pub one_ending : (hs : List Head) (i n : ℕ) (h : Head) (name : List ℕ) → n ≡ i + 1 → i < length hs → h ≡ get_or hs i h → cond (bytes_eq (last_name (head_of h)) name) (Some i) (position_from (ends_with name) n (map head_of (drop n hs))) ≡ position_from (ends_with name) i (map head_of (drop i hs))
one_ending hs i n h name e l is =
    rw e (sym (ap (position_from (ends_with name) i) (map_rest head_of hs i h l is)))

none_before : {A : Type 0} (p : A → Bool) (xs : List A) (i : ℕ) (d : A) → i ≤ length xs → ((k : ℕ) → k < i → p (get_or xs k d) ≡ false) → list_any p (take i xs) ≡ false
none_before p xs zero d l h = refl
none_before p xs (suc i) d l h =
    let rest : list_any p (take i xs) ≡ false = none_before p xs i d (omega (arith, l)) (λ k lt. h k (omega (arith, lt))) in
    subst (λ n. list_any p (take n xs) ≡ false) (add-one i) (list_any_more p xs i d (omega (arith, l)) ∙ rw (rest, h i (omega arith)) refl)

pub first_is_new : (hs : List Head) (i : ℕ) (h : Head) → i < length hs → h ≡ get_or hs i h → index_of (map head_of hs) h.name.items ≡ Some i → AreDistinct (map (λ v. v.name) (map head_of (take i hs))) → AreDistinct (map (λ v. v.name) (map head_of (take (i + 1) hs)))
first_is_new hs i h l is first d =
    let name = h.name.items in
    let at : position (λ (x : Head). bytes_eq x.name.items name) hs ≡ Some i = sym (position-map (has_name name) head_of hs) ∙ first in
    let none : list_any (λ (x : Head). bytes_eq x.name.items name) (take i hs) ≡ false =
    none_before (λ (x : Head). bytes_eq x.name.items name) hs i h (omega (arith, l)) (position-Some (λ (x : Head). bytes_eq x.name.items name) hs i h at).2 in
    let alone : list_any (λ n. bytes_eq n name) (map (λ v. v.name) (map head_of (take i hs))) ≡ false =
    list_any-map (λ n. bytes_eq n name) (λ (v : HeadV). v.name) (map head_of (take i hs)) ∙ list_any-map (has_name name) head_of (take i hs) ∙ none in
    rw (map_next head_of hs i h l is, map_push (λ (v : HeadV). v.name) (map head_of (take i hs)) (head_of h))
    (distinct_push bytes_eq (map (λ v. v.name) (map head_of (take i hs))) name alone d)

set_more : (b : Bool) (o : Option ℕ) → is_set (cond b (Some 0) o) ≡ (is_set o || (b || false))
set_more true None = refl
set_more true (Some n) = refl
set_more false None = refl
set_more false (Some n) = refl

-- one more name that is taken
pub taken_more : (old new : BTreeMap (Bor (List ℕ)) ℕ) (list : List (List ℕ)) (name q : List ℕ) → index_at new q ≡ cond (bytes_eq name q) (Some 0) (index_at old q) → is_set (index_at old q) ≡ is_in list q → is_set (index_at new q) ≡ is_in (list ++ name ∷ []) q
taken_more old new list name q e h =
    ap is_set e ∙ set_more (bytes_eq name q) (index_at old q) ∙ ap (λ b. b || (bytes_eq name q || false)) h
    ∙ sym (list_any-append (λ w. bytes_eq w q) list (name ∷ []))

neither_of : (a b : Bool) → (a || b) ≡ false → (a ≡ false) × (b ≡ false)
neither_of true b h = absurd cc
neither_of false b h = (refl, h)

-- names that are not among these, one after the other
pub distinct_more : (list ws : List (List ℕ)) → are_among list ws ≡ false → AreDistinct list → AreDistinct (list ++ ws)
distinct_more list [] h d = subst AreDistinct (sym (append-nil list)) d
distinct_more list (w ∷ ws) h d =
    let a = neither_of (is_in list w) (are_among (list ++ w ∷ []) ws) h in
    subst AreDistinct (append_assoc list (w ∷ []) ws) (distinct_more (list ++ w ∷ []) ws a.1 (distinct_push bytes_eq list w a.0 d))

pub no_names_yet : AreDistinct []
no_names_yet = distinct_none bytes_eq
