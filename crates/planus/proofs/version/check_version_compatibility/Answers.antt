use Rattle.std.proofs.Common.{◌≡◌, ℕ, Bool, true, List, sym, ◌∙◌}
use Rattle.std.specs.Str.{bytes_eq}
use Rattle.std.proofs.lemmas.Slice.Eq.{bytes_eq-Decides}
use Rattle.planus.proofs.version.check_version_compatibility.Goals as goal

tells : (answer : Bool) (xs ys : List ℕ) → answer ≡ bytes_eq xs ys → (answer ≡ true → xs ≡ ys) × (xs ≡ ys → answer ≡ true)
tells answer xs ys is = (λ h. (bytes_eq-Decides xs ys).0 (sym is ∙ h), λ same. is ∙ (bytes_eq-Decides xs ys).1 same)

pub returns : goal.returns
returns c = tells _ c.args.version.now _ (cc)
