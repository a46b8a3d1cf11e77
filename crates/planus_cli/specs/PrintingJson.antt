-- What `json` writes of a file of buffers.
use Rattle.std.specs.Prelude.{◌≡◌, ℕ, Bool, true, false, ◌&&◌, not, ◌+◌, List, [], ◌∷◌, ◌++◌, codes}
use Rattle.std.specs.Prelude.{length, max, MatchBool, Option, Some, None, Result, Ok, Err}
use Rattle.std.specs.Option.{option_map}
use Rattle.std.specs.String.{string_bytes}
use Rattle.std.specs.Prelude.{String}
use Rattle.std.specs.declared.alloc.Global.{Global}
use Rattle.std.specs.Io.KnownBytes.{Appends, Keeps}
use Rattle.planus_dump.specs.declared.schemas.Schema.{Schema as Dumped}
use Rattle.planus_inspect.specs.Shown.{Shows}
use Rattle.planus_json.specs.Outcomes.{IsJson}
use Rattle.planus_json.specs.declared.layout.Layout.{Layout}
use Rattle.planus_json.specs.declared.json_error.JsonError.{JsonError}
use Rattle.planus_json.specs.declared.json_error.JsonError.TheVariants as errors
use Rattle.planus_schema.specs.declared.schema.Schema.{Schema}
use Rattle.planus_cli.specs.declared.print_json.Numbered.{Numbered}
use Rattle.planus_cli.specs.declared.print_json.Print.{Print}
use Rattle.planus_cli.specs.declared.print_json.Printed.{Printed}
use Rattle.planus_cli.specs.Arguments.{WordsV, limit_of}
use Rattle.planus_cli.specs.Buffers.{ChecksIdentifier, EndsSized, HasNoRoot, header_text, root_of}
use Rattle.planus_cli.specs.Buffers.{status_of}
use Rattle.planus_cli.specs.Shown.{shown}
use Rattle.planus_cli.specs.Viewing.{SplitsSized}

-- how buffers of a file are printed: their identifier, by which schema, how laid out, in how many
-- bytes each, and what messages call the file
pub record Manner : Type 0 where
  pub identifier : Option (List ℕ)
  pub schema : Dumped
  pub layout : Layout
  pub most : ℕ
  pub name : List ℕ

-- which buffer of several has a fault
abbrev pub lead : Option Numbered → List ℕ
lead None = []
lead (Some place) = header_text place.number place.at ++ codes " "

-- what is said of a fault
abbrev pub reason : JsonError → Option (List ℕ)
reason errors.OutOfMemory = None
reason errors.BadSchema = None
reason errors.TooDeep = Some (codes "the buffer is nested too deep")
reason errors.TooLong = Some (codes "the JSON is too long; see --bytes")
reason (errors.Fault fault) =
    Some (string_bytes fault.path ++ (codes ": " ++ string_bytes fault.message))

abbrev pub fault_line : List ℕ → Option Numbered → List ℕ → List ℕ
fault_line name place text = codes "planus: " ++ (shown name ++ (codes ": " ++ (lead place
    ++ (shown text ++ codes "\n"))))

abbrev pub SaysReason : List ℕ → Option Numbered → Option (List ℕ) → Option (List ℕ)
    → Option (List ℕ) → Type 0
SaysReason name place None unsaid said = ⊥
SaysReason name place (Some text) unsaid said = Appends unsaid said (fault_line name place text)

-- It was said why a buffer has no JSON.
abbrev pub SaysFault : List ℕ → Option Numbered → JsonError → Option (List ℕ)
    → Option (List ℕ) → Type 0
SaysFault name place error unsaid said = SaysReason name place (reason error) unsaid said

-- The text and a line break were written, and nothing was said; or only the fault was.
abbrev pub PrintsOutcome : List ℕ → Option Numbered → Result (String Global) JsonError → Bool
    → Option (List ℕ) → Option (List ℕ) → Option (List ℕ) → Option (List ℕ) → Type 0
PrintsOutcome name place (Ok text) fault before after unsaid said =
    (fault ≡ false) × Appends before after (string_bytes text ++ codes "\n") × (said ≡ unsaid)
PrintsOutcome name place (Err error) fault before after unsaid said =
    (fault ≡ true) × (after ≡ before) × SaysFault name place error unsaid said

-- The JSON of a buffer was written, or its first fault said. `fault`: it has one.
pub record PrintsValue (how : Manner) (place : Option Numbered) (bytes : List ℕ) (fault : Bool)
    (before after unsaid said : Option (List ℕ)) : Type 0 where
  pub outcome : Result (String Global) JsonError
  pub is : IsJson how.schema bytes how.layout how.most outcome
  pub printed : PrintsOutcome how.name place outcome fault before after unsaid said

-- `known`: the buffer has the schema's identifier.
abbrev pub printed_of : Bool → Bool → Printed
printed_of known fault = record { status = status_of (known && not fault); has_fault = fault }

-- What is wrong with the identifier was said; and the JSON was written, or the fault said. The status
-- is 0 if nothing was said.
pub record PrintsOne (how : Manner) (place : Option Numbered) (bytes : List ℕ) (one : Printed)
    (before after unsaid said : Option (List ℕ)) : Type 0 where
  pub known : Bool
  pub fault : Bool
  pub told : Option (List ℕ)
  pub checks : ChecksIdentifier how.identifier how.name bytes known unsaid told
  pub prints : PrintsValue how place bytes fault before after told said
  pub is : one ≡ printed_of known fault

-- the same, of a file that is one buffer
abbrev pub PrintsAlone : Manner → List ℕ → ℕ → Option (List ℕ) → Option (List ℕ)
    → Option (List ℕ) → Option (List ℕ) → Type 0
PrintsAlone how bytes status before after unsaid said = (one : Printed)
    × PrintsOne how None bytes one before after unsaid said × (status ≡ one.status)

abbrev pub numbered : ℕ → ℕ → Numbered
numbered number at = record { number = number; at = at }

-- The first buffer was printed, and then what follows it. Before it are so many buffers and bytes.
pub record PrintsFirst (how : Manner) (number at : ℕ) (buffer bytes : List ℕ)
    (before unsaid : Option (List ℕ))
    (Follows : List ℕ → Printed → Option (List ℕ) → Option (List ℕ) → Type 0) : Type 0 where
  pub rest : List ℕ
  pub one : Printed
  pub written : Option (List ℕ)
  pub said : Option (List ℕ)
  pub split : SplitsSized bytes buffer rest
  pub first : PrintsOne how (Some (numbered (number + 1) (at + 4))) buffer one before written
      unsaid said
  pub follows : Follows rest one written said

-- Nothing follows a buffer with a fault.
pub record EndsFaulty (buffers : List (List ℕ)) (status : ℕ)
    (before after unsaid said : Option (List ℕ)) : Type 0 where
  pub last : buffers ≡ []
  pub is : status ≡ 1
  pub kept : after ≡ before
  pub unsaid_kept : said ≡ unsaid

-- These buffers, each after its size, were printed in order, up to the first with a fault. `worst` is
-- the greatest status of those before.
abbrev pub PrintsSized : Manner → ℕ → ℕ → List (List ℕ) → List ℕ → ℕ → ℕ → Option (List ℕ)
    → Option (List ℕ) → Option (List ℕ) → Option (List ℕ) → Type 0
PrintsSized how number at [] bytes worst status before after unsaid said =
    EndsSized how.name bytes worst status before after unsaid said
PrintsSized how number at (buffer ∷ buffers) bytes worst status before after unsaid said =
    PrintsFirst how number at buffer bytes before unsaid (λ rest one written told.
    MatchBool one.has_fault
    (EndsFaulty buffers status written after told said)
    (PrintsSized how (number + 1) (at + (4 + length buffer)) buffers rest
    (max worst one.status) status written after told said))

-- One buffer was printed, or several, each after its size.
abbrev pub Prints : Bool → Manner → List ℕ → ℕ → Option (List ℕ) → Option (List ℕ)
    → Option (List ℕ) → Option (List ℕ) → Type 0
Prints false how bytes status before after unsaid said =
    PrintsAlone how bytes status before after unsaid said
Prints true how bytes status before after unsaid said = (buffers : List (List ℕ))
    × PrintsSized how 0 0 buffers bytes 0 status before after unsaid said

abbrev pub manner : Schema → Dumped → Layout → ℕ → List ℕ → Manner
manner schema shows layout most name = record {
  identifier = option_map (λ v. v.items) schema.statements.identifier;
  schema = shows;
  layout = layout;
  most = most;
  name = name;
}

abbrev pub manner_of : Print → Manner
manner_of print =
    manner print.schema.now print.shown.now print.layout print.most print.name.now

abbrev pub layout_of : WordsV → Layout
layout_of words = record { compact = words.compact; strict = words.strict }

-- The buffers of a file were printed by a schema, as these words say.
pub record PrintsBytes (schema : Schema) (words : WordsV) (root : ℕ) (name bytes : List ℕ)
    (status : ℕ) (before after unsaid said : Option (List ℕ)) : Type 0 where
  pub dumped : Dumped
  pub shows : Shows schema root dumped
  pub prints : Prints words.size_prefixed (manner schema dumped (layout_of words)
      (limit_of words.bytes 67108864) name) bytes status before after unsaid said

-- The buffers were printed with this root, or it was said that there is none, with status 2.
abbrev pub PrintsRoot : Option ℕ → Schema → WordsV → List ℕ → List ℕ → ℕ → Option (List ℕ)
    → Option (List ℕ) → Option (List ℕ) → Option (List ℕ) → Type 0
PrintsRoot (Some root) schema words name bytes status before after unsaid said =
    PrintsBytes schema words root name bytes status before after unsaid said
PrintsRoot None schema words name bytes status before after unsaid said =
    HasNoRoot words.root status before after unsaid said

-- what `json` does with a schema and the bytes of a file, as these words say
abbrev pub PrintsBy : Schema → WordsV → List ℕ → List ℕ → ℕ → Option (List ℕ)
    → Option (List ℕ) → Option (List ℕ) → Option (List ℕ) → Type 0
PrintsBy schema words name bytes status before after unsaid said =
    PrintsRoot (root_of schema words.root) schema words name bytes status before after unsaid said
