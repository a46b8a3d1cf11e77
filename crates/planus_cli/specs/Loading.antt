-- How the files of a schema are read: each once, after what it includes.
use Rattle.std.specs.Prelude.{◌≡◌, ◌⊎◌, ℕ, zero, suc, Bool, List, [], ◌∷◌, ◌++◌, map, max, codes}
use Rattle.std.specs.Prelude.{Option, Some, None, position, true, false}
use Rattle.std.specs.Option.{is_some}
use Rattle.std.specs.Borrow.{Bor}
use Rattle.std.specs.Global.{Vec}
use Rattle.std.specs.Io.KnownBytes.{Appends, Keeps}
use Rattle.std.specs.Str.{bytes_eq}
use Rattle.std.specs.String.{string_bytes}
use Rattle.planus_syntax.specs.declared.value.Declaration.{Declaration}
use Rattle.planus_syntax.specs.declared.value.Item.{Item}
use Rattle.planus_syntax.specs.declared.value.Item.TheVariants as item
use Rattle.planus_cli.specs.declared.check.File.{File}
use Rattle.planus_cli.specs.declared.sources.Source.{Source}
use Rattle.planus_cli.specs.declared.sources.Sources.{Sources}
use Rattle.planus_cli.specs.Disks.{Disk}
use Rattle.planus_cli.specs.Files.{IsTextOf, FailsReading}
use Rattle.planus_cli.specs.Including.{IsFirstThere, tried, path_of}
use Rattle.planus_cli.specs.SchemaTexts.{IsSpelled, ReportsAt}

-- A file has this name, the text of that name, and what the text spells.
pub record IsSource (Holds : List ℕ → List ℕ → Type 0) (name : List ℕ) (source : Source)
    : Type 0 where
  pub named : string_bytes source.file.name ≡ name
  pub text : IsTextOf Holds name source.file.text.items
  pub spelled : IsSpelled source.file.text.items source.declarations.items

-- the files, and the folders in which those that are included are sought
pub record Places : Type 1 where
  pub disk : Disk
  pub folders : List (List ℕ)

abbrev pub places_of : Disk → List (Bor (List ℕ)) → Places
places_of disk folders = record { disk = disk; folders = map (λ folder. folder.now) folders }

-- From what was read, and what was reported, to a status, what is read then, and reported.
abbrev pub Step : Type 1
Step = Sources → Option (List ℕ) → ℕ → Sources → Option (List ℕ) → Type 0

-- A file of this name is begun.
pub record Begins (name : List ℕ) (old new : Sources) : Type 0 where
  pub begun : Vec ℕ
  pub named : begun.items ≡ name
  pub begins : new.begun.items ≡ old.begun.items ++ begun ∷ []
  pub files : new.files ≡ old.files
  pub declarations : new.declarations ≡ old.declarations

-- A file that was read is added.
pub record Adds (source : Source) (old new : Sources) : Type 0 where
  pub begun : new.begun ≡ old.begun
  pub files : new.files.items ≡ old.files.items ++ source.file ∷ []
  pub declarations : new.declarations.items ≡ old.declarations.items ++ source.declarations ∷ []

-- A fault at the word of an `include` is reported.
abbrev pub Refuses : List ℕ → File → ℕ → Step
Refuses message file left old unsaid status new said = (status ≡ 1) × (new ≡ old)
    × ((report : List ℕ)
    × ReportsAt (string_bytes file.name) file.text.items left message report
    × Appends unsaid said report)

abbrev pub has_begun : List ℕ → Sources → Bool
has_begun name sources = is_some (position (λ begun. bytes_eq begun.items name) sources.begun.items)

abbrev pub IfBegun : Bool → Step → Step
IfBegun false load old unsaid status new said = load old unsaid status new said
IfBegun true load old unsaid status new said = (status ≡ 0) × (new ≡ old) × (said ≡ unsaid)

-- A file that was begun isn't read again.
abbrev pub Once : (List ℕ → Step) → List ℕ → Step
Once Load name old = IfBegun (has_begun name old) (Load name) old

-- What an `include` names is loaded, or it is reported that it isn't.
abbrev pub Enters : (Step → List ℕ → Step) → File → ℕ → Option (List ℕ) → Step
Enters Enter file left None = Refuses (codes "the included file can't be found") file left
Enters Enter file left (Some name) =
    Enter (Refuses (codes "more than 64 files include one another") file left) name

-- where an `include` leads
abbrev pub Includes : Places → (Step → List ℕ → Step) → File → ℕ → List ℕ → Step
Includes places Enter file left path old unsaid status new said =
    (found : Option (List ℕ)) × IsFirstThere places.disk.There
    (tried places.folders (string_bytes file.name) (path_of path)) found
    × Enters Enter file left found old unsaid status new said

-- After this worst status, one declaration is an `include`, or nothing is done.
abbrev pub IncludesItem : (ℕ → List ℕ → Step) → ℕ → Item → ℕ → Step
IncludesItem Include left (item.Include path) worst old unsaid status new said =
    (one : ℕ) × Include left path.items old unsaid one new said × (status ≡ max worst one)
IncludesItem Include left other worst old unsaid status new said =
    (status ≡ worst) × (new ≡ old) × (said ≡ unsaid)

-- What each declaration includes is loaded, in order. The worst status stays.
abbrev pub IncludesAll : (ℕ → List ℕ → Step) → List Declaration → ℕ → Step
IncludesAll Include [] worst old unsaid status new said =
    (status ≡ worst) × (new ≡ old) × (said ≡ unsaid)
IncludesAll Include (d ∷ ds) worst old unsaid status new said =
    (mid : ℕ) × (between : Sources) × (told : Option (List ℕ))
    × IncludesItem Include d.left d.item worst old unsaid mid between told
    × IncludesAll Include ds mid between told status new said

-- A file is begun and read, what it includes is loaded, and then it is added.
pub record ReadsFile (places : Places) (Enter : Step → List ℕ → Step) (name : List ℕ) (old : Sources)
    (unsaid : Option (List ℕ)) (status : ℕ) (new : Sources) (said : Option (List ℕ))
    : Type 0 where
  pub source : Source
  pub is : IsSource places.disk.Holds name source
  pub begun : Sources
  pub begins : Begins name old begun
  pub told : Option (List ℕ)
  pub kept : Keeps unsaid told
  pub between : Sources
  pub includes : IncludesAll (Includes places Enter source.file) source.declarations.items 0
      begun told status between said
  pub adds : Adds source between new

-- A file is begun, and can't be read, or its text has a fault.
abbrev pub FailsFile : Places → List ℕ → Step
FailsFile places name old unsaid status new said =
    Begins name old new × FailsReading places.disk name status unsaid said

abbrev pub LoadsBy : Places → (Step → List ℕ → Step) → List ℕ → Step
LoadsBy places Enter name old unsaid status new said =
    FailsFile places name old unsaid status new said
    ⊎ ReadsFile places Enter name old unsaid status new said

-- Loads a file, or else does this, where so many more files may include one another.
unfoldable pub enter : Places → ℕ → Step → List ℕ → Step
enter places zero Otherwise name = Otherwise
enter places (suc left) Otherwise name = Once (LoadsBy places (enter places left)) name

-- Loads a file that isn't begun.
abbrev pub Loads : Places → ℕ → List ℕ → Step
Loads places left = LoadsBy places (enter places left)
