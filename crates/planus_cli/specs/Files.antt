-- What the files of a schema hold, and what they mean.
use Rattle.std.specs.Prelude.{◌≡◌, ◌⊎◌, ℕ, List, [], ◌∷◌, ◌++◌, Option}
use Rattle.std.specs.Prelude.{codes}
use Rattle.std.specs.Io.KnownBytes.{Appends}
use Rattle.std.specs.Global.{Vec}
use Rattle.std.specs.List.{All}
use Rattle.std.specs.String.{string_bytes}
use Rattle.planus_syntax.specs.Spelled.{after_order_mark}
use Rattle.planus_syntax.specs.declared.value.Declaration.{Declaration}
use Rattle.planus_cli.specs.declared.check.File.{File}
use Rattle.planus_cli.specs.Disks.{Disk, after_name}
use Rattle.planus_cli.specs.declared.file_error.FileError.{FileError}
use Rattle.planus_cli.specs.SchemaTexts.{Reports, line_of}
use Rattle.planus_cli.specs.Checks.{AreSpelled}

-- the text of a schema: its file's bytes after a byte order mark
pub record IsTextOf (Holds : List ℕ → List ℕ → Type 0) (name text : List ℕ) : Type 0 where
  pub bytes : List ℕ
  pub holds : Holds name bytes
  pub is : text ≡ after_order_mark bytes

-- Each file has the text of its name.
abbrev pub AreTexts : (List ℕ → List ℕ → Type 0) → List File → Type 0
AreTexts Holds files = All (λ f. IsTextOf Holds (string_bytes f.name) f.text.items) files

-- files that were read, and their declarations
pub record AreRead (Holds : List ℕ → List ℕ → Type 0) (files : List File)
    (declarations : List (Vec Declaration)) : Type 0 where
  pub texts : AreTexts Holds files
  pub spelled : AreSpelled files declarations

-- The last file has this name.
pub record EndsWith (files : List File) (name : List ℕ) : Type 0 where
  pub before : List File
  pub file : File
  pub are : files ≡ before ++ file ∷ []
  pub named : string_bytes file.name ≡ name

-- The file can't be read, or is too long, and this was said.
abbrev pub SaysUnread : Disk → List ℕ → Option (List ℕ) → Option (List ℕ) → Type 0
SaysUnread disk name unsaid said =
    ((error : FileError) × disk.Fails name error
    × Appends unsaid said (line_of (codes "can't read ") name (after_name error)))
    ⊎ (disk.Long name
    × Appends unsaid said (line_of [] name (codes " is longer than 1073741824 bytes")))

-- It was written, with status 0, or it was said why not, with status 2.
abbrev pub PutsFile : Disk → List ℕ → List ℕ → ℕ → Option (List ℕ) → Option (List ℕ) → Type 0
PutsFile disk name bytes status unsaid said =
    ((status ≡ 0) × disk.Wrote name bytes × (said ≡ unsaid))
    ⊎ ((status ≡ 2) × ((error : FileError) × disk.Refuses name error
    × Appends unsaid said (line_of (codes "can't write ") name (after_name error))))

-- The first fault of the file's text was reported.
pub record ReportsFile (Holds : List ℕ → List ℕ → Type 0) (name : List ℕ)
    (unsaid said : Option (List ℕ)) : Type 0 where
  pub text : List ℕ
  pub is : IsTextOf Holds name text
  pub report : List ℕ
  pub reports : Reports name text report
  pub told : Appends unsaid said report

-- A file wasn't read, with status 2, or its text has a fault, with status 1; that was reported.
abbrev pub FailsReading : Disk → List ℕ → ℕ → Option (List ℕ) → Option (List ℕ) → Type 0
FailsReading disk name status unsaid said = ((status ≡ 2) × SaysUnread disk name unsaid said)
    ⊎ ((status ≡ 1) × ReportsFile disk.Holds name unsaid said)
