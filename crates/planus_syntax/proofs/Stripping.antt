-- What follows the bytes that a text begins with.
use Rattle.std.proofs.Common.{◌≡◌, ℕ, ◌+◌, Bool, true, false, List, [], ◌∷◌, ◌++◌, length, take, drop, refl, sym, ap, ◌∙◌, arith}
use Rattle.std.specs.Prelude.{Option, Some, None, MatchOption, nat_eq, ◌&&◌}
use Rattle.std.specs.Borrow.{Bor}
use Rattle.std.specs.Str.{bytes_eq}
use Rattle.std.proofs.Math.Seq.{take-append_seam}
use Rattle.std.proofs.lemmas.Bool.Decides.{nat_tests}
use Rattle.std.proofs.lemmas.List.{take-append-drop}
use Rattle.std.proofs.lemmas.Slice.Eq.{bytes_eq-Decides}
use Rattle.planus_syntax.specs.declared.strings.StringState.{StringState}
use Rattle.planus_syntax.specs.Strings.{Strips, string_step, text_from, written}

clash : (v : Bool) → v ≡ true → v ≡ false → ⊥
clash true h k = cc
clash false h k = cc

-- what `strip_prefix` says
pub strips : (front text : List ℕ) (r : Option (Bor (List ℕ)))
    → MatchOption r (bytes_eq (take (length front) text) front ≡ false) (λ x. (bytes_eq (take (length front) text) front ≡ true) × (x.now ≡ drop (length front) text) × (length x.now + length front ≡ length text))
    → Strips front text r
strips front text None h = λ rest e.
    clash (bytes_eq (take (length front) text) front) ((bytes_eq-Decides (take (length front) text) front).1 (ap (take (length front)) e ∙ take-append_seam front rest)) h
strips front text (Some x) h =
    sym (take-append-drop (length front) text)
    ∙ ap (λ xs. xs ++ drop (length front) text) ((bytes_eq-Decides (take (length front) text) front).0 h.0)
    ∙ ap (λ ys. front ++ ys) (sym h.1)

itself : (b : ℕ) → nat_eq b b ≡ true
itself b = grind (arith, nat_tests)

same_front : (front xs ys : List ℕ) → bytes_eq (front ++ xs) (front ++ ys) ≡ bytes_eq xs ys
same_front [] xs ys = refl
same_front (b ∷ front) xs ys = ap (λ t. t && bytes_eq (front ++ xs) (front ++ ys)) (itself b) ∙ same_front front xs ys

-- one byte of the string is compared
pub compared : (q b : ℕ) (s : StringState) (rest after left next : List ℕ) (v : Bool) → rest ≡ b ∷ after → left ≡ written q s b ++ next → bytes_eq (text_from q s rest) left ≡ v
    → bytes_eq (text_from q (string_step q s b) after) next ≡ v
compared q b s rest after left next v here strip so_far =
    sym (same_front (written q s b) (text_from q (string_step q s b) after) next)
    ∙ ap (bytes_eq (text_from q s (b ∷ after))) (sym strip)
    ∙ ap (λ w. bytes_eq (text_from q s w) left) (sym here) ∙ so_far
