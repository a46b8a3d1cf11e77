-- One more item is converted.
use Rattle.std.proofs.Common.{◌≡◌, ℕ, ◌<◌, ◌≤◌, List, [], ◌∷◌, ◌++◌, length, slice_get, Some}
use Rattle.std.proofs.Common.{Result, Ok, sym, ◌∙◌, ⊎_elim, arith, ap}
use Rattle.std.proofs.lemmas.Bool.{cases_lt}
use Rattle.std.proofs.lemmas.Option.{slice_get_within, get_or_from_slice_get, slice_get-get_or}
use Rattle.std.proofs.lemmas.List.{get_or_append_left, get_or_push, length_push}
use Rattle.planus_view.specs.declared.copies.CopyError.{CopyError}
use Rattle.planus_view.specs.Copies.{AreFirstConverted, ItemConverts}

module _ {V A O : Type 0} (is_sub_view : V → ℕ → ℕ → V → Type 0) (is_item : V → ℕ → A
    → Type 0) (converts : A → Result O CopyError → Type 0) where
  old_at :
      (out : List O) (y z : O) (i : ℕ) → i < length out → slice_get (out ++ y ∷ []) i ≡ Some z
      → slice_get out i ≡ Some z
  old_at out y z i h e =
      slice_get-get_or out i z h ∙ ap Some (sym (get_or_append_left out (y ∷ []) z i h)
      ∙ get_or_from_slice_get (out ++ y ∷ []) i z z e)

  new_at :
      (out : List O) (y z : O) (i : ℕ) → length out ≡ i → slice_get (out ++ y ∷ []) i ≡ Some z
      → y ≡ z
  new_at out y z i h e =
      sym (get_or_push out y z i h) ∙ get_or_from_slice_get (out ++ y ∷ []) i z z e

  pub one_more :
      (v : V) (n : ℕ) (out : List O) (y : O)
      → AreFirstConverted is_sub_view is_item converts v n out
      → ItemConverts is_sub_view is_item converts v n (length out) (Ok y)
      → AreFirstConverted is_sub_view is_item converts v n (out ++ y ∷ [])
  one_more v n out y all this = record {
    each = λ i z e. ⊎_elim
        (λ (h : i < length out). all.each i z (old_at out y z i h e))
        (λ (h : length out ≤ i).
        let w : i < length (out ++ y ∷ []) = slice_get_within (out ++ y ∷ []) i z e in
        let k : length out ≡ i = omega (arith, length_push out y) in
        let s : y ≡ z = new_at out y z i k e in
        rw (← k, ← s) this)
        (cases_lt i (length out));
  }
