-- What becomes of a file with all that it includes.
use Rattle.std.specs.Prelude.{◌≡◌, ◌≢◌, ◌⊎◌, ℕ, List, [], Option, Some, None}
use Rattle.std.specs.Io.KnownBytes.{Keeps}
use Rattle.planus_schema.specs.declared.schema.Schema.{Schema}
use Rattle.planus_cli.specs.declared.sources.Sources.{Sources}
use Rattle.planus_cli.specs.declared.meaning.Meaning.{Meaning}
use Rattle.planus_cli.specs.Checks.{ResolvesFiles}
use Rattle.planus_cli.specs.Files.{AreRead, EndsWith}
use Rattle.planus_cli.specs.Loading.{Places, Loads}

-- how many more files may include one another
unfoldable pub most_includes : ℕ
most_includes = 63

pub record AreNone (sources : Sources) : Type 0 where
  pub begun : sources.begun.items ≡ []
  pub files : sources.files.items ≡ []
  pub declarations : sources.declarations.items ≡ []

-- A file and all that it includes were loaded, with this status.
pub record LoadsAll (places : Places) (name : List ℕ) (unsaid : Option (List ℕ)) (status : ℕ)
    (sources : Sources) (said : Option (List ℕ)) : Type 0 where
  pub none : Sources
  pub are : AreNone none
  pub loads : Loads places most_includes name none unsaid status sources said

-- The files were loaded, the named one last, and nothing was reported.
pub record AreLoaded (places : Places) (name : List ℕ) (unsaid : Option (List ℕ)) (sources : Sources)
    (said : Option (List ℕ)) : Type 0 where
  pub loads : LoadsAll places name unsaid 0 sources said
  pub read : AreRead places.disk.Holds sources.files.items sources.declarations.items
  pub last : EndsWith sources.files.items name
  pub kept : Keeps unsaid said

-- What the files spell means this schema, or else their faults were reported.
pub record MeansAll (places : Places) (name : List ℕ) (found : Option Schema)
    (unsaid said : Option (List ℕ)) : Type 0 where
  pub sources : Sources
  pub told : Option (List ℕ)
  pub loaded : AreLoaded places name unsaid sources told
  pub means : ResolvesFiles sources.files.items sources.declarations.items found told said

-- The files were loaded, and what they spell means this schema.
pub record HasMeaning (places : Places) (name : List ℕ) (meaning : Meaning)
    (unsaid said : Option (List ℕ)) : Type 0 where
  pub sources : Sources
  pub told : Option (List ℕ)
  pub loaded : AreLoaded places name unsaid sources told
  pub means : ResolvesFiles sources.files.items sources.declarations.items (Some meaning.schema)
      told said
  pub files : meaning.files ≡ sources.files
  pub declarations : meaning.declarations ≡ sources.declarations

-- Files weren't loaded, which was reported with this status.
pub record FailsLoading (places : Places) (name : List ℕ) (status : ℕ) (unsaid said : Option (List ℕ))
    : Type 0 where
  pub fails : status ≢ 0
  pub sources : Sources
  pub loads : LoadsAll places name unsaid status sources said

-- why a file, with those that it includes, has no schema, and what was reported
abbrev pub HasNoSchema : Places → List ℕ → ℕ → Option (List ℕ) → Option (List ℕ) → Type 0
HasNoSchema places name status unsaid said = FailsLoading places name status unsaid said
    ⊎ ((status ≡ 1) × MeansAll places name None unsaid said)

-- what `check` does with a file, by its status
abbrev pub ChecksFile : Places → List ℕ → ℕ → Option (List ℕ) → Option (List ℕ) → Type 0
ChecksFile places name status unsaid said =
    ((status ≡ 0) × ((schema : Schema) × MeansAll places name (Some schema) unsaid said))
    ⊎ HasNoSchema places name status unsaid said
