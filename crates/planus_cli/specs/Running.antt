-- What a call does with files.
use Rattle.std.specs.Prelude.{◌≡◌, ◌⊎◌, ⊤, ℕ, Bool, true, false, not, List, [], ◌∷◌, Option, Some, None, is_some}
use Rattle.std.specs.Io.KnownBytes.{Keeps}
use Rattle.planus_schema.specs.declared.schema.Schema.{Schema}
use Rattle.planus_cli.specs.Arguments.{WordsV, Asked, run}
use Rattle.planus_cli.specs.Buffers.{ViewsBy}
use Rattle.planus_cli.specs.Conforming.{ConformsFiles}
use Rattle.planus_cli.specs.Disks.{Disk}
use Rattle.planus_cli.specs.Drawing.{DrawsFiles}
use Rattle.planus_cli.specs.Each.{Does, RunsFiles}
use Rattle.planus_cli.specs.Files.{SaysUnread}
use Rattle.planus_cli.specs.Including.{file_named}
use Rattle.planus_cli.specs.Loading.{Places}
use Rattle.planus_cli.specs.Packing.{PacksBy}
use Rattle.planus_cli.specs.Printing.{PrintsCode}
use Rattle.planus_cli.specs.PrintingJson.{PrintsBy}
use Rattle.planus_cli.specs.Rewriting.{FormatsFile}
use Rattle.planus_cli.specs.Said.{SaidV, SaysBy, said_of}
use Rattle.planus_cli.specs.Sources.{ChecksFile, HasNoSchema, MeansAll}
use Rattle.planus_cli.specs.declared.arguments.Command.{Command}
use Rattle.planus_cli.specs.declared.arguments.Command.TheVariants.{Check, Format, View}
use Rattle.planus_cli.specs.declared.arguments.Command.TheVariants.{Rattle as RattleCommand}
use Rattle.planus_cli.specs.declared.arguments.Command.TheVariants.{Json as JsonCommand}
use Rattle.planus_cli.specs.declared.arguments.Command.TheVariants.{Binary}
use Rattle.planus_cli.specs.declared.arguments.Command.TheVariants.{Dot, Conform, Completions}
use Rattle.planus_cli.specs.declared.pairs.PairCommand.{PairCommand}
use Rattle.planus_cli.specs.declared.pairs.PairCommand.TheVariants as pair

abbrev pub places_in : Disk → WordsV → Places
places_in disk words = record { disk = disk; folders = words.folders }

-- what `format` does with one file, or `check`
abbrev pub RunsFile : Disk → Bool → WordsV → List ℕ → Does
RunsFile disk true words word status before after unsaid said =
    FormatsFile disk words word status before after unsaid said
RunsFile disk false words word status before after unsaid said =
    (after ≡ before) × ChecksFile (places_in disk words) (file_named word) status unsaid said

-- what `view`, `json` or `binary` does with a schema and the bytes of a file
abbrev pub ShowsBy : Disk → PairCommand → Schema → WordsV → List ℕ → List ℕ → Does
ShowsBy disk pair.View schema words name bytes status before after unsaid said =
    ViewsBy schema words name bytes status before after unsaid said
ShowsBy disk pair.Json schema words name bytes status before after unsaid said =
    PrintsBy schema words name bytes status before after unsaid said
ShowsBy disk pair.Binary schema words name bytes status before after unsaid said =
    PacksBy disk schema words name bytes status before after unsaid said

-- A file was read and shown.
pub record ShowsRead (disk : Disk) (command : PairCommand) (schema : Schema) (words : WordsV) (name : List ℕ)
    (status : ℕ) (before after unsaid said : Option (List ℕ)) : Type 0 where
  pub bytes : List ℕ
  pub holds : disk.Holds name bytes
  pub told : Option (List ℕ)
  pub kept : Keeps unsaid told
  pub shows : ShowsBy disk command schema words name bytes status before after told said

abbrev pub ShowsFile : Disk → PairCommand → Schema → WordsV → List ℕ → Does
ShowsFile disk command schema words name status before after unsaid said =
    ((status ≡ 2) × (after ≡ before) × SaysUnread disk name unsaid said)
    ⊎ ShowsRead disk command schema words name status before after unsaid said

-- What a schema means was found, and the buffer's file shown by it.
pub record ShowsMeaning (disk : Disk) (command : PairCommand) (words : WordsV) (schema buffer : List ℕ)
    (status : ℕ) (before after unsaid said : Option (List ℕ)) : Type 0 where
  pub means : Schema
  pub told : Option (List ℕ)
  pub found : MeansAll (places_in disk words) (file_named schema) (Some means) unsaid told
  pub shows : ShowsFile disk command means words buffer status before after told said

-- what `view`, `json` or `binary` does with a schema and another file
abbrev pub ShowsPair : Disk → PairCommand → WordsV → List ℕ → List ℕ → Does
ShowsPair disk command words schema buffer status before after unsaid said =
    ((after ≡ before) × HasNoSchema (places_in disk words) (file_named schema) status unsaid said)
    ⊎ ShowsMeaning disk command words schema buffer status before after unsaid said

abbrev pub ShowsFiles : Disk → PairCommand → WordsV → List (List ℕ) → Does
ShowsFiles disk command words (schema ∷ buffer ∷ []) = ShowsPair disk command words schema buffer
ShowsFiles disk command words other = λ status before after unsaid said. status ≡ 2

abbrev pub RunsCommand : Disk → Command → WordsV → Does
RunsCommand disk View words status before after unsaid said =
    ShowsFiles disk pair.View words words.files status before after unsaid said
RunsCommand disk JsonCommand words status before after unsaid said =
    ShowsFiles disk pair.Json words words.files status before after unsaid said
RunsCommand disk Binary words status before after unsaid said =
    ShowsFiles disk pair.Binary words words.files status before after unsaid said
RunsCommand disk RattleCommand words status before after unsaid said =
    (after ≡ before) × (status ≡ 0 → PrintsCode (places_in disk words) words.check
    (not words.no_verified) (is_some words.foreign) words.files unsaid said)
RunsCommand disk Check words status before after unsaid said =
    RunsFiles (RunsFile disk false words) words.files 0 status before after unsaid said
RunsCommand disk Format words status before after unsaid said =
    RunsFiles (RunsFile disk true words) words.files 0 status before after unsaid said
RunsCommand disk Dot words status before after unsaid said =
    DrawsFiles (places_in disk words) words.files status before after unsaid said
RunsCommand disk Conform words status before after unsaid said =
    ConformsFiles (places_in disk words) words status before after unsaid said
RunsCommand disk Completions words status before after unsaid said = status ≡ 2

-- what a call does with the files that it names
abbrev pub Runs : Disk → Asked → Does
Runs disk (run command words) status before after unsaid said =
    RunsCommand disk command words status before after unsaid said
Runs disk other status before after unsaid said = ⊤

-- It was done, after nothing was said of the call.
pub record RunsAfter (disk : Disk) (request : Asked) (status : ℕ)
    (before after unsaid said : Option (List ℕ)) : Type 0 where
  pub written : Option (List ℕ)
  pub told : Option (List ℕ)
  pub kept : Keeps before written
  pub quiet : Keeps unsaid told
  pub runs : Runs disk request status written after told said

abbrev pub SaysOr : Does → Option SaidV → Does
SaysOr runs None status before after unsaid said = runs status before after unsaid said
SaysOr runs (Some s) status before after unsaid said =
    SaysBy s.wrong s.text (Some status) before after unsaid said

-- What is said of a call was written; or else what it asks for was done.
abbrev pub SaysOrRuns : Disk → Asked → Does
SaysOrRuns disk request = SaysOr (RunsAfter disk request) (said_of request)
