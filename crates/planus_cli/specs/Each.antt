-- What is done for each file of a call.
use Rattle.std.specs.Prelude.{◌≡◌, ℕ, List, [], ◌∷◌, max, Option}

-- A status, what was written before and after, and what was reported.
abbrev pub Does : Type 1
Does = ℕ → Option (List ℕ) → Option (List ℕ) → Option (List ℕ) → Option (List ℕ) → Type 0

-- One file after the other. The worst status before stays.
abbrev pub RunsFiles : (List ℕ → Does) → List (List ℕ) → ℕ → Does
RunsFiles One [] worst status before after unsaid said =
    (status ≡ worst) × (after ≡ before) × (said ≡ unsaid)
RunsFiles One (word ∷ words) worst status before after unsaid said =
    (one : ℕ) × (written : Option (List ℕ)) × (told : Option (List ℕ))
    × One word one before written unsaid told
    × RunsFiles One words (max worst one) status written after told said
