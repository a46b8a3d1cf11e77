-- What becomes of the text of a schema.
use Rattle.std.specs.Prelude.{◌≡◌, ℕ, List, ◌++◌, codes}
use Rattle.std.specs.Prelude.{Option, ◌-◌, length, Ok, ◌⊎◌}
use Rattle.std.specs.Io.KnownBytes.{Appends, Keeps}
use Rattle.planus_dump.specs.Writing.{WritesBeginning}
use Rattle.planus_syntax.specs.declared.text.SchemaError.{SchemaError}
use Rattle.planus_syntax.specs.declared.text.SchemaError.TheVariants as errors
use Rattle.planus_syntax.specs.Parsed.{HasCanonicalText, IsFaultOf, KeepsComments, Spells}
use Rattle.planus_cli.specs.declared.streams.CallError.{CallError}
use Rattle.planus_cli.specs.declared.streams.CallError.TheVariants.{OutOfMemory, Read, Write}
use Rattle.planus_cli.specs.declared.streams.CallError.TheVariants.{BadSchema}
use Rattle.planus_cli.specs.declared.formatted.Formatted.{Formatted}
use Rattle.planus_cli.specs.declared.formatted.Formatted.TheVariants as formatted
use Rattle.planus_cli.specs.declared.formatted.Printed.{Printed}
use Rattle.planus_cli.specs.declared.parsed.Parsed.{Parsed}
use Rattle.planus_cli.specs.declared.parsed.Parsed.TheVariants as parsed
use Rattle.planus_syntax.specs.Tokens.{Piece}
use Rattle.planus_syntax.specs.Lexing.{lex_of}
use Rattle.planus_syntax.specs.Placing.{StandsAt}
use Rattle.planus_syntax.specs.Counting.{AreCounted}
use Rattle.planus_syntax.specs.declared.value.Declaration.{Declaration}
use Rattle.planus_syntax.specs.Values.{AreWhole, declarations_of}
use Rattle.planus_cli.specs.declared.formatted.Printed.TheVariants.{Text, Report}
use Rattle.planus_cli.specs.Shown.{shown}
use Rattle.planus_cli.specs.Reports.{report_text, lex_message, parse_message}

abbrev pub ReportsError : List ℕ → List ℕ → SchemaError → List ℕ → Type 0
ReportsError name text errors.OutOfMemory report = ⊥
ReportsError name text (errors.Token fault at) report =
    report ≡ report_text name text at (lex_message fault)
ReportsError name text (errors.Declaration fault index at) report =
    report ≡ report_text name text at (parse_message fault)

-- the report of the text's first fault
abbrev pub Reports : List ℕ → List ℕ → List ℕ → Type 0
Reports name text report =
    (error : SchemaError) × IsFaultOf text error × ReportsError name text error report

-- The first spells a schema, the second is its canonical text, which has the same comments.
pub record Formats (text out : List ℕ) : Type 0 where
  pub canonical : HasCanonicalText text out
  pub kept : KeepsComments text out

-- The text spells these declarations, before the documentation that it ends with. Each `left` counts
-- the tokens from its word.
pub record IsSpelled (text : List ℕ) (declarations : List Declaration) : Type 0 where
  pub trailing : List (List ℕ)
  pub spelled : Spells text (record {
    declarations = declarations_of declarations;
    trailing = trailing;
  })
  pub counted : AreCounted declarations trailing

-- the text's declarations, or the report of its first fault
abbrev pub IsParsed : List ℕ → List ℕ → Parsed → Type 0
IsParsed name text (parsed.Declarations ds) =
    IsSpelled text ds.items × AreWhole (declarations_of ds.items)
IsParsed name text (parsed.Report report) = Reports name text report.items

-- the text is tokens, blanks and comments
abbrev pub HasTokens : List ℕ → Type 0
HasTokens text = (ps : List Piece) × (lex_of text ≡ Ok ps)

-- the byte where the word begins from which the text has `left` tokens to its end
pub record IsPlaceAt (text : List ℕ) (left at : ℕ) : Type 0 where
  pub tokens : List Piece
  pub are : lex_of text ≡ Ok tokens
  pub stands : StandsAt text tokens (length tokens - left) at

-- the report of this fault at that word
abbrev pub ReportsAt : List ℕ → List ℕ → ℕ → List ℕ → List ℕ → Type 0
ReportsAt name text left message report =
    (at : ℕ) × IsPlaceAt text left at × (report ≡ report_text name text at message)

-- the canonical text, or the report of the text's first fault
abbrev pub IsFormatted : List ℕ → List ℕ → Formatted → Type 0
IsFormatted name text (formatted.Text out) = Formats text out.items
IsFormatted name text (formatted.Report report) = Reports name text report.items

-- the canonical text is these bytes
abbrev pub HasText : List ℕ → Formatted → Type 0
HasText bytes (formatted.Text out) = out.items ≡ bytes
HasText bytes (formatted.Report report) = ⊥

-- the greatest length of a text, in bytes
abbrev pub greatest_text : ℕ
greatest_text = 1073741824

-- a message about a file or a word of the call
abbrev pub line_of : List ℕ → List ℕ → List ℕ → List ℕ
line_of before name after = codes "planus: " ++ (before ++ (shown name ++ (after ++ codes "\n")))

-- why a call fails
abbrev pub reason_of : CallError → List ℕ
reason_of OutOfMemory = codes "planus: out of memory\n"
reason_of Read = codes "planus: a word of the call is no text\n"
reason_of Write = codes "planus: can't write\n"
reason_of BadSchema = codes "planus: the schema isn't sound\n"

-- a beginning of the canonical text was written, or only one of the report
abbrev pub BeginsPrinting : List ℕ → List ℕ → Option (List ℕ) → Option (List ℕ)
    → Option (List ℕ) → Option (List ℕ) → Type 0
BeginsPrinting name text before after unsaid said =
    ((out : List ℕ) × Formats text out × WritesBeginning out before after × Keeps unsaid said)
    ⊎ ((report : List ℕ) × Reports name text report × Keeps before after
    × WritesBeginning report unsaid said)

-- Memory was refused before anything was written, or writing failed.
abbrev pub FailsPrinting : List ℕ → List ℕ → CallError → Option (List ℕ) → Option (List ℕ)
    → Option (List ℕ) → Option (List ℕ) → Type 0
FailsPrinting name text OutOfMemory before after unsaid said =
    Keeps before after × Keeps unsaid said
FailsPrinting name text Read before after unsaid said = ⊥
FailsPrinting name text BadSchema before after unsaid said = ⊥
FailsPrinting name text Write before after unsaid said =
    BeginsPrinting name text before after unsaid said

-- The canonical text was written, or only a report of the first fault.
abbrev pub Prints : List ℕ → List ℕ → Printed → Option (List ℕ) → Option (List ℕ)
    → Option (List ℕ) → Option (List ℕ) → Type 0
Prints name text Text before after unsaid said =
    ((out : List ℕ) × Formats text out × Appends before after out) × Keeps unsaid said
Prints name text Report before after unsaid said = Keeps before after
    × ((report : List ℕ) × Reports name text report × Appends unsaid said report)
