-- What `dot` writes of a schema.
use Rattle.std.specs.Prelude.{◌≡◌, ◌⊎◌, ℕ, List, [], ◌∷◌, Option, Some}
use Rattle.std.specs.Io.KnownBytes.{Appends}
use Rattle.planus_schema.specs.declared.schema.Schema.{Schema}
use Rattle.planus_dot.specs.Graphs.{graph_text}
use Rattle.planus_cli.specs.Including.{file_named}
use Rattle.planus_cli.specs.Loading.{Places}
use Rattle.planus_cli.specs.Sources.{HasNoSchema, MeansAll}

-- What a file means was found, and its graph written.
pub record DrawsMeaning (places : Places) (name : List ℕ) (before after unsaid said : Option (List ℕ))
    : Type 0 where
  pub schema : Schema
  pub means : MeansAll places name (Some schema) unsaid said
  pub written : Appends before after (graph_text schema)

-- what `dot` does with the file that a word names, by its status
abbrev pub DrawsNamed : Places → List ℕ → ℕ → Option (List ℕ) → Option (List ℕ)
    → Option (List ℕ) → Option (List ℕ) → Type 0
DrawsNamed places word status before after unsaid said =
    ((status ≡ 0) × DrawsMeaning places (file_named word) before after unsaid said)
    ⊎ ((after ≡ before) × HasNoSchema places (file_named word) status unsaid said)

-- `dot` has one schema.
abbrev pub DrawsFiles : Places → List (List ℕ) → ℕ → Option (List ℕ) → Option (List ℕ)
    → Option (List ℕ) → Option (List ℕ) → Type 0
DrawsFiles places (word ∷ []) status before after unsaid said =
    DrawsNamed places word status before after unsaid said
DrawsFiles places other status before after unsaid said = status ≡ 2
