-- Which declarations of two schemas belong together.
use Rattle.std.specs.Prelude.{◌≡◌, ℕ, ◌==◌, Bool, false, List, [], ◌∷◌, map, position}
use Rattle.std.specs.Prelude.{Option, Some, None, slice_get, if◌then◌else◌}
use Rattle.std.specs.Str.{bytes_eq}
use Rattle.planus_schema.specs.declared.schema.Declared.{Declared}
use Rattle.planus_conform.specs.declared.rename.Rename.{Rename}

-- the index of the first declaration of this name
abbrev pub named : List Declared → List ℕ → Option ℕ
named ds name = position (λ d. bytes_eq d.name.items name) ds

-- the name that the new schema has for this one
abbrev pub renamed : List Rename → List ℕ → List ℕ
renamed [] name = name
renamed (r ∷ rs) name = if bytes_eq r.from.items name then r.to.items else renamed rs name

-- for each declaration of the old schema the one of its name in the new schema
abbrev pub matches_of : List Rename → List Declared → List Declared → List (Option ℕ)
matches_of rs old new = map (λ d. named new (renamed rs d.name.items)) old

abbrev pub match_in : Option (Option ℕ) → Option ℕ
match_in None = None
match_in (Some o) = o

abbrev pub match_at : List (Option ℕ) → ℕ → Option ℕ
match_at m i = match_in (slice_get m i)

abbrev pub is_index : Option ℕ → ℕ → Bool
is_index None j = false
is_index (Some i) j = i == j

-- Declaration j of the new schema is that of declaration i of the old one.
abbrev pub Matches : List (Option ℕ) → ℕ → ℕ → Type 0
Matches m i j = match_at m i ≡ Some j
