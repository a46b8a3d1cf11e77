-- The values of several steps, found one after another.
use Rattle.std.proofs.Common.{◌≡◌, ℕ, ◌+◌, ◌<◌, List, [], ◌∷◌, ◌++◌, length, take, drop, refl, sym, ap, ◌∙◌}
use Rattle.std.proofs.Common.{Option, Some, None, append_assoc, slice_index_or}
use Rattle.std.specs.Option.{option_or}
use Rattle.std.proofs.lemmas.List.{take-append-drop, take_more}
use Rattle.planus.specs.Replays.{first_fault}
use Rattle.planus.specs.declared.replaying.faults.Why.{Why}

module _ {X : Type 0} (fault : X → Option Why) where
  none_first : (first rest : Option Why) → option_or first rest ≡ None → (first ≡ None) × (rest ≡ None)
  none_first None rest e = (refl, e)
  none_first (Some why) rest e = (cc)

  pub fault_behind : (xs : List X) (x : X) (rest : List X) (why : Why) → first_fault fault xs ≡ None → fault x ≡ Some why → first_fault fault (xs ++ x ∷ rest) ≡ Some why
  fault_behind [] x rest why none e = ap (λ (f : Option Why). option_or f (first_fault fault rest)) e
  fault_behind (y ∷ ys) x rest why none e =
      let both = none_first (fault y) (first_fault fault ys) none in
      ap (λ (f : Option Why). option_or f (first_fault fault (ys ++ x ∷ rest))) both.0 ∙ fault_behind ys x rest why both.1 e

  pub none_more : (xs : List X) (x : X) → first_fault fault xs ≡ None → fault x ≡ None → first_fault fault (xs ++ x ∷ []) ≡ None
  none_more [] x none e = ap (λ (f : Option Why). option_or f None) e
  none_more (y ∷ ys) x none e =
      let both = none_first (fault y) (first_fault fault ys) none in
      ap (λ (f : Option Why). option_or f (first_fault fault (ys ++ x ∷ []))) both.0 ∙ none_more ys x both.1 e

pub around : {X : Type 0} (xs : List X) (i : ℕ) (x : X) → take (i + 1) xs ≡ take i xs ++ x ∷ [] → take i xs ++ x ∷ drop (i + 1) xs ≡ xs
around xs i x next =
    sym (append_assoc (take i xs) (x ∷ []) (drop (i + 1) xs)) ∙ ap (λ ys. ys ++ drop (i + 1) xs) (sym next) ∙ take-append-drop (i + 1) xs

-- the item at this index is the last of those up to it
pub takes_item : {A : Type 0} (xs : List A) (i : ℕ) (x : A) → i < length xs → x ≡ slice_index_or xs i x → take (i + 1) xs ≡ take i xs ++ x ∷ []
takes_item xs i x there is = take_more xs i x there ∙ ap (λ y. take i xs ++ y ∷ []) (sym is)
