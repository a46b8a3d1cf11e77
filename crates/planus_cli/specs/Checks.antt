-- What is reported of the meaning of files.
use Rattle.std.specs.Prelude.{◌≡◌, ℕ, ◌==◌, ◌||◌, not, Bool, List, [], ◌∷◌, ◌++◌}
use Rattle.std.specs.Prelude.{map, take, drop, slice_get, Option, Some, None}
use Rattle.std.specs.Prelude.{if◌then◌else◌}
use Rattle.std.specs.List.{position_or_len}
use Rattle.std.specs.Int.{is_in_range}
use Rattle.std.specs.String.{string_bytes}
use Rattle.std.specs.Io.KnownBytes.{Appends, Keeps}
use Rattle.std.specs.Global.{Vec}
use Rattle.planus_dump.specs.Writing.{WritesBeginning}
use Rattle.planus_syntax.specs.Strings.{is_quote}
use Rattle.planus_syntax.specs.Values.{DeclarationV, declarations_of}
use Rattle.planus_syntax.specs.declared.value.Declaration.{Declaration}
use Rattle.planus_resolve.specs.Names.{HeadV, heads_of}
use Rattle.planus_resolve.specs.Faults.{AreInOrder, faults_found}
use Rattle.planus_cli.specs.declared.streams.CallError.{CallError}
use Rattle.planus_cli.specs.declared.streams.CallError.TheVariants.{OutOfMemory, Read, Write}
use Rattle.planus_cli.specs.declared.streams.CallError.TheVariants.{BadSchema}
use Rattle.planus_cli.specs.SchemaTexts.{IsPlaceAt, IsSpelled}
use Rattle.planus_resolve.specs.Schemas.{Means, AreFaults}
use Rattle.planus_resolve.specs.Sound.{IsSound}
use Rattle.planus_resolve.specs.declared.fault.Fault.{Fault}
use Rattle.planus_schema.specs.declared.schema.Schema.{Schema}
use Rattle.planus_cli.specs.declared.check.File.{File}
use Rattle.planus_cli.specs.FaultTexts.{message_text}
use Rattle.planus_cli.specs.Reports.{report_text}

-- Each file's text spells the declarations of the same index.
abbrev pub AreSpelled : List File → List (Vec Declaration) → Type 0
AreSpelled [] [] = Unit {0}
AreSpelled [] (d ∷ ds) = ⊥
AreSpelled (f ∷ fs) [] = ⊥
AreSpelled (f ∷ fs) (d ∷ ds) = IsSpelled f.text.items d.items × AreSpelled fs ds

-- no letter, digit, `_` or dot
abbrev pub ends_word : ℕ → Bool
ends_word b = not (is_in_range 65 90 b || is_in_range 97 122 b || is_in_range 48 57 b || b == 95
    || b == 46)

abbrev pub unquoted : List ℕ → List ℕ
unquoted [] = []
unquoted (b ∷ bs) = if is_quote b then bs else b ∷ bs

-- the name at the front of these bytes
abbrev pub word_of : List ℕ → List ℕ
word_of bytes = take (position_or_len ends_word bytes) bytes

-- the report of a fault at its word
abbrev pub IsReport : List HeadV → File → Fault → List ℕ → Type 0
IsReport hs file fault report = (at : ℕ) × IsPlaceAt file.text.items fault.left at
    × (report ≡ report_text (string_bytes file.name) file.text.items at
    (message_text hs fault.kind (word_of (unquoted (drop at file.text.items)))))

pub record IsReportIn (hs : List HeadV) (files : List File) (fault : Fault) (report : List ℕ)
    : Type 0 where
  pub file : File
  pub here : slice_get files fault.file ≡ Some file
  pub is : IsReport hs file fault report

pub record IsReportAdded (hs : List HeadV) (files : List File) (fault : Fault)
    (old new : List ℕ) : Type 0 where
  pub report : List ℕ
  pub is : IsReportIn hs files fault report
  pub added : new ≡ old ++ report

pub record Joins (IsFirst AreRest : List ℕ → Type 0) (out : List ℕ) : Type 0 where
  pub first : List ℕ
  pub rest : List ℕ
  pub is : IsFirst first
  pub are : AreRest rest
  pub joined : out ≡ first ++ rest

-- one report after another
abbrev pub AreReports : List HeadV → List File → List Fault → List ℕ → Type 0
AreReports hs files [] out = out ≡ []
AreReports hs files (fault ∷ faults) out =
    Joins (IsReportIn hs files fault) (AreReports hs files faults) out

abbrev pub schemas_of : List (Vec Declaration) → List (List DeclarationV)
schemas_of declarations = map (λ f. declarations_of f.items) declarations

-- these are the files' faults, at least one
pub record AreTold (declarations : List (Vec Declaration)) (faults : List Fault) : Type 0 where
  pub exact : AreInOrder (faults_found declarations) faults
  pub some : AreFaults faults

-- The sound schema that the files mean and no report, or all faults in order.
abbrev pub ResolvesFiles : List File → List (Vec Declaration) → Option Schema
    → Option (List ℕ) → Option (List ℕ) → Type 0
ResolvesFiles files declarations (Some s) before after = (faults_found declarations ≡ [])
    × Means (schemas_of declarations) s × IsSound s × Keeps before after
ResolvesFiles files declarations None before after = (faults : List Fault)
    × AreTold declarations faults
    × ((out : List ℕ) × AreReports (heads_of (schemas_of declarations)) files faults out
    × Appends before after out)

-- Memory was refused before anything was written; or writing failed, and a beginning of the reports
-- was written.
abbrev pub FailsResolving : List File → List (Vec Declaration) → CallError → Option (List ℕ)
    → Option (List ℕ) → Type 0
FailsResolving files declarations OutOfMemory before after = Keeps before after
FailsResolving files declarations Read before after = ⊥
FailsResolving files declarations BadSchema before after = ⊥
FailsResolving files declarations Write before after = (faults : List Fault)
    × AreTold declarations faults
    × ((out : List ℕ) × AreReports (heads_of (schemas_of declarations)) files faults out
    × WritesBeginning out before after)
