-- The names of a number's flags, one after another.
use Rattle.std.proofs.Common.{◌≡◌, ℕ, List, [], ◌∷◌, ◌++◌, Option, Some, None, Bool, true, false, refl}
use Rattle.planus_json.specs.Trees.{spaced, spaced_names}

-- what comes of the text so far with these other names
abbrev pub closed : Bool → List ℕ → List (List ℕ) → Option (List ℕ)
closed true text [] = None
closed true text (name ∷ names) = Some (text ++ (name ++ spaced false names))
closed false text names = Some (text ++ spaced false names)

pub closed-none : (names : List (List ℕ)) → closed true [] names ≡ spaced_names names
closed-none [] = refl
closed-none (name ∷ names) = refl
