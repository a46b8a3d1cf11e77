-- Texts in UTF-8.
use Rattle.std.proofs.Common.{◌≡◌, ℕ, List, Bool, true, false, refl, Some, None}
use Rattle.std.specs.Prelude.{if◌then◌else◌}
use Rattle.std.specs.Str.{IsUtf8, is_utf8}
use Rattle.std.proofs.lemmas.Str.{IsUtf8-from_is_utf8, is_utf8-from_IsUtf8}
use Rattle.planus_pack.specs.Defaults.{text_said}

pub said : (w : List ℕ) → IsUtf8 w → text_said w ≡ Some w
said w h = rw (is_utf8-from_IsUtf8 w h) refl

pub unsaid : (w : List ℕ) → (IsUtf8 w → ⊥) → text_said w ≡ None
unsaid w not_text = by_test (is_utf8 w) refl
  where
    by_test : (b : Bool) → is_utf8 w ≡ b → (if b then Some w else None) ≡ None
    by_test true e = absurd (not_text (IsUtf8-from_is_utf8 w e))
    by_test false e = refl
