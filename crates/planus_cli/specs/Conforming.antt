-- What `conform` tells of two schemas.
use Rattle.std.specs.Prelude.{◌≡◌, ◌⊎◌, ℕ, Bool, true, false, List, [], ◌∷◌, ◌++◌}
use Rattle.std.specs.Prelude.{Option, Some, None}
use Rattle.std.specs.Io.KnownBytes.{Appends}
use Rattle.planus_conform.specs.declared.breaks.Break.{Break}
use Rattle.planus_conform.specs.declared.breaks.Way.{Way}
use Rattle.planus_conform.specs.declared.breaks.Way.TheVariants as way
use Rattle.planus_conform.specs.declared.rename.Rename.{Rename}
use Rattle.planus_conform.specs.Breaks.{breaks_of}
use Rattle.planus_conform.specs.Conforms.{Conforms}
use Rattle.planus_conform.specs.Notes.{notes_of}
use Rattle.planus_cli.specs.declared.meaning.Meaning.{Meaning}
use Rattle.planus_cli.specs.Arguments.{WordsV, before_equals, after_equals}
use Rattle.planus_cli.specs.Each.{Does, RunsFiles}
use Rattle.planus_cli.specs.Including.{file_named, file_in, last_part}
use Rattle.planus_cli.specs.Loading.{Places}
use Rattle.planus_cli.specs.Sources.{HasNoSchema, HasMeaning}
use Rattle.planus_cli.specs.Telling.{TellsBreaks}

-- ---- what is asked for

abbrev pub way_by : Bool → Bool → Way
way_by true forward = way.Backward
way_by false true = way.Forward
way_by false false = way.Both

abbrev pub way_of : WordsV → Way
way_of words = way_by words.backward words.forward

-- what `--rename` says
pub record IsRenameOf (word : List ℕ) (rename : Rename) : Type 0 where
  pub from : rename.from.items ≡ before_equals word
  pub to : rename.to.items ≡ after_equals word

abbrev pub AreRenamesOf : List (List ℕ) → List Rename → Type 0
AreRenamesOf [] [] = Unit {0}
AreRenamesOf [] (r ∷ rs) = ⊥
AreRenamesOf (w ∷ ws) [] = ⊥
AreRenamesOf (w ∷ ws) (r ∷ rs) = IsRenameOf w r × AreRenamesOf ws rs

-- ---- the command

-- Lines of JSON were written on standard output, and reports on standard error.
abbrev pub AreWritten : Bool → List ℕ → Option (List ℕ) → Option (List ℕ) → Option (List ℕ)
    → Option (List ℕ) → Type 0
AreWritten true out before after unsaid said = Appends before after out × (said ≡ unsaid)
AreWritten false out before after unsaid said = (after ≡ before) × Appends unsaid said out

-- Nothing is told, or all of these, in order.
abbrev pub TellsAll : Bool → List Rename → Meaning → Meaning → List Break → Option (List ℕ)
    → Option (List ℕ) → Option (List ℕ) → Option (List ℕ) → Type 0
TellsAll json rs old new [] before after unsaid said = (after ≡ before) × (said ≡ unsaid)
TellsAll json rs old new (one ∷ rest) before after unsaid said =
    (out : List ℕ) × TellsBreaks json rs old new (one ∷ rest) out
    × AreWritten json out before after unsaid said

abbrev pub status_of : List Break → ℕ
status_of [] = 0
status_of (one ∷ rest) = 1

-- With status 0 nothing breaks, and the schemas conform. All that breaks is told, and then all that
-- changes a user's code alone.
pub record Compares (json : Bool) (w : Way) (rs : List Rename) (old new : Meaning) (status : ℕ)
    (before after unsaid said : Option (List ℕ)) : Type 0 where
  pub ends : status ≡ status_of (breaks_of w rs old.schema new.schema)
  pub conforms : status ≡ 0 → Conforms w rs old.schema new.schema
  pub tells :
      TellsAll json rs old new (breaks_of w rs old.schema new.schema
      ++ notes_of w rs old.schema new.schema) before after unsaid said

-- The meanings of both were found, and compared.
pub record ComparesMeanings (places : Places) (words : WordsV) (old : Meaning) (name : List ℕ)
    (status : ℕ) (before after unsaid said : Option (List ℕ)) : Type 0 where
  pub new : Meaning
  pub told : Option (List ℕ)
  pub found : HasMeaning places name new unsaid told
  pub renames : List Rename
  pub are : AreRenamesOf words.renames renames
  pub compares :
      Compares words.json (way_of words) renames old new status before after told said

-- A file has no schema, which is reported.
abbrev pub MeansNothing : Places → List ℕ → Does
MeansNothing places name status before after unsaid said =
    (after ≡ before) × HasNoSchema places name status unsaid said

-- The new schema has no meaning, or it was compared with the old one.
abbrev pub ConformsTo : Places → WordsV → Meaning → List ℕ → Does
ConformsTo places words old word status before after unsaid said =
    MeansNothing places (file_named word) status before after unsaid said
    ⊎ ComparesMeanings places words old (file_named word) status before after unsaid said

-- The old schema's meaning was found, and then what is said of the new one was said.
pub record ConformsFrom (places : Places) (words : WordsV) (name new : List ℕ) (status : ℕ)
    (before after unsaid said : Option (List ℕ)) : Type 0 where
  pub old : Meaning
  pub told : Option (List ℕ)
  pub found : HasMeaning places name old unsaid told
  pub conforms : ConformsTo places words old new status before after told said

-- what `conform` says of two schemas
abbrev pub ConformsPair : Places → WordsV → List ℕ → List ℕ → Does
ConformsPair places words old new status before after unsaid said =
    MeansNothing places (file_named old) status before after unsaid said
    ⊎ ConformsFrom places words (file_named old) new status before after unsaid said

-- `conform` has an old schema and a new one
abbrev pub ConformsTwo : Places → WordsV → List (List ℕ) → Does
ConformsTwo places words (old ∷ new ∷ []) status before after unsaid said =
    ConformsPair places words old new status before after unsaid said
ConformsTwo places words other status before after unsaid said = status ≡ 2

-- what `conform --against` says of a schema: the old one is the file of its name in a folder
abbrev pub ConformsAgainst : Places → WordsV → List ℕ → List ℕ → Does
ConformsAgainst places words folder word status before after unsaid said =
    ConformsPair places words (file_in folder (last_part word)) word status before after unsaid said

-- `conform` has an old schema and a new one, or schemas and the folder of the old ones
abbrev pub ConformsIn : Option (List ℕ) → Places → WordsV → Does
ConformsIn None places words status before after unsaid said =
    ConformsTwo places words words.files status before after unsaid said
ConformsIn (Some folder) places words status before after unsaid said =
    RunsFiles (ConformsAgainst places words folder) words.files 0 status before after unsaid said

abbrev pub ConformsFiles : Places → WordsV → Does
ConformsFiles places words status before after unsaid said =
    ConformsIn words.against places words status before after unsaid said
