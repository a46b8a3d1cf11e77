-- The names of an enum's values.
use Rattle.std.proofs.Common.{ℕ, List, [], ◌∷◌, ◌++◌, codes}
use Rattle.planus_dump.specs.Lines.{other_names, names_text}

abbrev pub closed : List ℕ → List (List ℕ) → List ℕ
closed [] names = names_text names
closed (b ∷ bs) names = (b ∷ bs) ++ (other_names names ++ codes ")")
