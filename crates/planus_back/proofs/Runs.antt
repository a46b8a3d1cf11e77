-- A run of a block's places.
use mathlib.Core.Path.{◌≡◌, refl, sym, subst, ◌∙◌}
use mathlib.Core.Bool.{Bool, true, false}
use Prim.Native.Nat.{ℕ, zero, suc, ◌+◌, ◌*◌, ◌<◌, ◌≤◌}
use native.Mathlib.Nat.{zero-mul, suc-mul}
use native.Mathlib.Omega.{arith}
use mathlib.Core.List.{List, [], ◌∷◌}
use lib.ListN.{length, get_or, take, drop, length-drop}
use lib.Seq.{get_or-drop}
use seplogic.Ra.Ura.{Ura}
use base.Logic.{SProp, ent, id⊢}
use base.Fml.{Lft}
use types.Logic.{Logic, sem}
use types.Kit.{‵, ◌$◌, ◌∵◌, !, qed, by, move, keep, drop as leave, use1, rewrite, fsplit, fjoin, frame, done}
use denote.RawPtr.{block_ptr}
use base.Fraction.{full_share}
use types.SemTy.{cells}
use denote.Memory.{mem, part_at}
use denote.Slice.{elements_shared}
use Rattle.core.proofs.mem.Param.{El, R, el_x}
use Rattle.core.proofs.slots.Places.{sz}
use Rattle.core.specs.Mem.Slots.Ownership.{slot, slots, slot_lent, slots_lent}

module _ (E : El) {M : Type 1} {𝓤 : Ura M} (𝓛 : Logic 𝓤) (κ : Lft) (b : ℕ) where
  abbrev Shown : ℕ → List (el_x E) → List Bool → SProp 𝓤
  Shown o xs fs = sem 𝓛 (slots_lent (R E) (block_ptr b o) xs fs κ)

  behind : (i : ℕ) (xs : List (el_x E)) (fs : List Bool) (o at : ℕ) → i ≤ length xs → i ≤ length fs → at ≡ i * sz E + o
      → ent 𝓤 (Shown o xs fs) (Shown at (drop i xs) (drop i fs))
  behind zero xs fs o at l m e =
      let here : o ≡ at = omega (arith, zero-mul (sz E)) in
      subst (λ k. ent 𝓤 (Shown o xs fs) (Shown k xs fs)) here (id⊢ 𝓤 _)
  behind (suc i) [] fs o at l m e = absurd (omega arith)
  behind (suc i) (x ∷ xs) [] o at l m e = absurd (omega arith)
  behind (suc i) (x ∷ xs) (f ∷ fs) o at l m e =
      qed 𝓛 (‵ (slot_lent (R E) f (block_ptr b o) x κ) ∷ ‵ (slots_lent (R E) (block_ptr b (o + sz E)) xs fs κ) ∷ []) ∵
      leave ! $ by ! (behind i xs fs (o + sz E) at (omega arith) (omega arith) (omega (arith, suc-mul i (sz E))))

  in_front : (n : ℕ) (xs : List (el_x E)) (fs : List Bool) (o : ℕ) → n ≤ length xs → n ≤ length fs → ((k : ℕ) → k < n → get_or fs k false ≡ true)
      → ent 𝓤 (Shown o xs fs) (sem 𝓛 (elements_shared (R E) (take n xs) b o κ))
  in_front zero xs fs o l m full = qed 𝓛 (‵ (slots_lent (R E) (block_ptr b o) xs fs κ) ∷ []) ∵ keep ! [] $ done !
  in_front (suc n) [] fs o l m full = absurd (omega arith)
  in_front (suc n) (x ∷ xs) [] o l m full = absurd (omega arith)
  in_front (suc n) (x ∷ xs) (f ∷ fs) o l m full =
      let first : 0 < suc n = omega arith in
      qed 𝓛 (‵ (slot_lent (R E) f (block_ptr b o) x κ) ∷ ‵ (slots_lent (R E) (block_ptr b (o + sz E)) xs fs κ) ∷ []) ∵
      rewrite ! 0 (λ (g : Bool). ‵ (slot_lent (R E) g (block_ptr b o) x κ)) (full 0 first) refl $ fsplit ! $ leave ! $ move ! (1 ∷ []) $
      use1 𝓛 (‵ (elements_shared (R E) (take n xs) b (o + sz E) κ)) (in_front n xs fs (o + sz E) (omega arith) (omega arith) (λ k lt. full (suc k) (let more : suc k < suc n = omega arith in more))) $
      move ! (1 ∷ 0 ∷ []) $ fjoin ! $ done !

  pub run_lent : (xs : List (el_x E)) (fs : List Bool) (o i n : ℕ) → i + n ≤ length xs → i + n ≤ length fs → ((k : ℕ) → i ≤ k → k < i + n → get_or fs k false ≡ true)
      → ent 𝓤 (Shown o xs fs) (sem 𝓛 (elements_shared (R E) (take n (drop i xs)) b (i * sz E + o) κ))
  run_lent xs fs o i n l m full =
      let at : ℕ = i * sz E + o in
      qed 𝓛 (‵ (slots_lent (R E) (block_ptr b o) xs fs κ) ∷ []) ∵
      use1 𝓛 (‵ (slots_lent (R E) (block_ptr b at) (drop i xs) (drop i fs) κ)) (behind i xs fs o at (omega arith) (omega arith) refl) $
      by ! (in_front n (drop i xs) (drop i fs) at (omega (arith, length-drop i xs)) (omega (arith, length-drop i fs))
      (λ k lt. get_or-drop i fs k false ∙ full (i + k) (omega arith) (omega arith)))

module _ (E : El) {M : Type 1} {𝓤 : Ura M} (𝓛 : Logic 𝓤) (b : ℕ) where
  pub to_cells : (xs : List (el_x E)) (fs : List Bool) (o : ℕ) → length fs ≡ length xs → ((k : ℕ) → k < length xs → get_or fs k false ≡ true)
      → ent 𝓤 (sem 𝓛 (slots (R E) (block_ptr b o) xs fs)) (sem 𝓛 (cells (mem (R E)) xs b o))
  to_cells [] fs o same full = qed 𝓛 (‵ (slots (R E) (block_ptr b o) [] fs) ∷ []) ∵ keep ! [] $ done !
  to_cells (x ∷ xs) [] o same full = let off : 0 ≡ suc (length xs) = same in absurd (omega arith)
  to_cells (x ∷ xs) (f ∷ fs) o same full =
      let first : 0 < suc (length xs) = omega arith in let long : suc (length fs) ≡ suc (length xs) = same in
      qed 𝓛 (‵ (slot (R E) f (block_ptr b o) x) ∷ ‵ (slots (R E) (block_ptr b (o + sz E)) xs fs) ∷ []) ∵
      rewrite ! 0 (λ (g : Bool). ‵ (slot (R E) g (block_ptr b o) x)) (full 0 first) refl $ frame ! $
      by ! (to_cells xs fs (o + sz E) (omega arith) (λ k lt. full (suc k) (let more : suc k < suc (length xs) = omega arith in more)))

  pub of_cells : (xs : List (el_x E)) (fs : List Bool) (o : ℕ) → length fs ≡ length xs → ((k : ℕ) → k < length xs → get_or fs k false ≡ true)
      → ent 𝓤 (sem 𝓛 (cells (mem (R E)) xs b o)) (sem 𝓛 (slots (R E) (block_ptr b o) xs fs))
  of_cells [] fs o same full = qed 𝓛 (‵ (cells (mem (R E)) [] b o) ∷ []) ∵ keep ! [] $ done !
  of_cells (x ∷ xs) [] o same full = let off : 0 ≡ suc (length xs) = same in absurd (omega arith)
  of_cells (x ∷ xs) (f ∷ fs) o same full =
      let first : 0 < suc (length xs) = omega arith in let long : suc (length fs) ≡ suc (length xs) = same in
      qed 𝓛 (‵ (part_at (R E) full_share x b o) ∷ ‵ (cells (mem (R E)) xs b (o + sz E)) ∷ []) ∵
      rewrite ! 0 (λ (g : Bool). ‵ (slot (R E) g (block_ptr b o) x)) {x = f} (sym (full 0 first)) refl $ frame ! $
      by ! (of_cells xs fs (o + sz E) (omega arith) (λ k lt. full (suc k) (let more : suc k < suc (length xs) = omega arith in more)))
