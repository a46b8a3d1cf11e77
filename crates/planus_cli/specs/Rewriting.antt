-- What `format` writes of a text.
use Rattle.std.specs.Prelude.{◌≡◌, ℕ, Bool, true, false, ◌⊎◌, List, [], Option, codes}
use Rattle.std.specs.Io.KnownBytes.{Appends, Keeps}
use Rattle.planus_cli.specs.declared.formatted.Formatted.{Formatted}
use Rattle.planus_cli.specs.declared.formatted.Formatted.TheVariants as formatted
use Rattle.std.specs.Str.{bytes_eq}
use Rattle.planus_syntax.specs.Spelled.{after_order_mark}
use Rattle.planus_cli.specs.Arguments.{WordsV}
use Rattle.planus_cli.specs.Disks.{Disk}
use Rattle.planus_cli.specs.Files.{IsTextOf, PutsFile, SaysUnread}
use Rattle.planus_cli.specs.SchemaTexts.{Formats, IsFormatted, Reports, line_of}

-- The canonical text was written.
pub record PrintsText (text : List ℕ) (before after unsaid said : Option (List ℕ)) : Type 0 where
  pub out : List ℕ
  pub formats : Formats text out
  pub written : Appends before after out
  pub kept : Keeps unsaid said

-- Only the report of the first fault was written.
pub record ReportsText (name text : List ℕ) (before after unsaid said : Option (List ℕ)) : Type 0 where
  pub report : List ℕ
  pub is : Reports name text report
  pub kept : Keeps before after
  pub told : Appends unsaid said report

-- The canonical text was written, with status 0, or a report, with status 1.
abbrev pub FormatsText : List ℕ → List ℕ → ℕ → Option (List ℕ) → Option (List ℕ)
    → Option (List ℕ) → Option (List ℕ) → Type 0
FormatsText name text status before after unsaid said =
    ((status ≡ 0) × PrintsText text before after unsaid said)
    ⊎ ((status ≡ 1) × ReportsText name text before after unsaid said)

-- It was written in place of its file, or it was said why not.
abbrev pub Replaces : Disk → List ℕ → Formatted → ℕ → Option (List ℕ) → Option (List ℕ) → Type 0
Replaces disk name (formatted.Text out) status unsaid said =
    PutsFile disk name out.items status unsaid said
Replaces disk name (formatted.Report report) status unsaid said =
    (status ≡ 1) × Appends unsaid said report.items

-- The canonical text of a text was written in place of its file, or it was said why not.
abbrev pub Rewrites : Disk → List ℕ → List ℕ → ℕ → Option (List ℕ) → Option (List ℕ) → Type 0
Rewrites disk name text status unsaid said = (what : Formatted)
    × IsFormatted name text what × Replaces disk name what status unsaid said

abbrev pub no_write : List ℕ
no_write = codes "--write needs a file, and - is standard input"

-- A file's canonical text takes its place; standard input has none.
abbrev pub RewritesIf : Disk → Bool → List ℕ → List ℕ → ℕ → Option (List ℕ)
    → Option (List ℕ) → Type 0
RewritesIf disk true name text status unsaid said =
    (status ≡ 2) × Appends unsaid said (line_of no_write [] [])
RewritesIf disk false name text status unsaid said =
    Rewrites disk name text status unsaid said

-- the text is printed, or takes its file's place
abbrev pub FormatsIf : Disk → Bool → List ℕ → List ℕ → ℕ → Option (List ℕ)
    → Option (List ℕ) → Option (List ℕ) → Option (List ℕ) → Type 0
FormatsIf disk true name text status before after unsaid said = (after ≡ before)
    × RewritesIf disk (bytes_eq name (codes "-")) name text status unsaid said
FormatsIf disk false name text status before after unsaid said =
    FormatsText name text status before after unsaid said

abbrev pub FormatsBy : Disk → WordsV → List ℕ → List ℕ → ℕ → Option (List ℕ)
    → Option (List ℕ) → Option (List ℕ) → Option (List ℕ) → Type 0
FormatsBy disk words name text status before after unsaid said =
    FormatsIf disk words.write name text status before after unsaid said

-- A file was read, and its text formatted.
pub record FormatsRead (disk : Disk) (words : WordsV) (name : List ℕ) (status : ℕ)
    (before after unsaid said : Option (List ℕ)) : Type 0 where
  pub text : List ℕ
  pub is : IsTextOf disk.Holds name text
  pub told : Option (List ℕ)
  pub kept : Keeps unsaid told
  pub formats : FormatsBy disk words name text status before after told said

-- It was said that a file's bytes aren't its canonical text, or its first fault was reported.
abbrev pub SaysOther : List ℕ → List ℕ → Option (List ℕ) → Option (List ℕ) → Type 0
SaysOther name bytes unsaid said =
    (((out : List ℕ) × Formats (after_order_mark bytes) out × (bytes_eq out bytes ≡ false))
    × Appends unsaid said (line_of [] name (codes " isn't formatted")))
    ⊎ ((report : List ℕ) × Reports name (after_order_mark bytes) report
    × Appends unsaid said report)

-- A file's bytes are its canonical text, with status 0, or something was said, with status 1.
abbrev pub ComparesBytes : List ℕ → List ℕ → ℕ → Option (List ℕ) → Option (List ℕ) → Type 0
ComparesBytes name bytes status unsaid said =
    ((status ≡ 0) × Formats (after_order_mark bytes) bytes × (said ≡ unsaid))
    ⊎ ((status ≡ 1) × SaysOther name bytes unsaid said)

-- A file was read, and compared with its canonical text.
pub record ComparesRead (disk : Disk) (name : List ℕ) (status : ℕ) (unsaid said : Option (List ℕ))
    : Type 0 where
  pub bytes : List ℕ
  pub holds : disk.Holds name bytes
  pub told : Option (List ℕ)
  pub kept : Keeps unsaid told
  pub compares : ComparesBytes name bytes status told said

-- what `format --check` does with a file, by its status
abbrev pub ComparesFile : Disk → List ℕ → ℕ → Option (List ℕ) → Option (List ℕ) → Type 0
ComparesFile disk name status unsaid said =
    ((status ≡ 2) × SaysUnread disk name unsaid said)
    ⊎ ComparesRead disk name status unsaid said

-- what `format` does with a file, by its status
abbrev pub FormatsOne : Bool → Disk → WordsV → List ℕ → ℕ → Option (List ℕ) → Option (List ℕ)
    → Option (List ℕ) → Option (List ℕ) → Type 0
FormatsOne true disk words name status before after unsaid said =
    (after ≡ before) × ComparesFile disk name status unsaid said
FormatsOne false disk words name status before after unsaid said =
    ((status ≡ 2) × (after ≡ before) × SaysUnread disk name unsaid said)
    ⊎ FormatsRead disk words name status before after unsaid said

abbrev pub FormatsFile : Disk → WordsV → List ℕ → ℕ → Option (List ℕ) → Option (List ℕ)
    → Option (List ℕ) → Option (List ℕ) → Type 0
FormatsFile disk words name status before after unsaid said =
    FormatsOne words.check disk words name status before after unsaid said
