-- How a break from one schema to another is told: as a report, or as a line of JSON.
use Rattle.std.specs.Prelude.{◌≡◌, ℕ, Bool, true, false, List, [], ◌∷◌, ◌++◌, codes}
use Rattle.std.specs.Prelude.{slice_get, take, Option, Some, None}
use Rattle.std.specs.String.{string_bytes}
use Rattle.planus_schema.specs.declared.schema.Schema.{Schema}
use Rattle.planus_conform.specs.declared.breaks.Break.{Break}
use Rattle.planus_conform.specs.declared.rename.Rename.{Rename}
use Rattle.planus_cli.specs.declared.check.File.{File}
use Rattle.planus_cli.specs.declared.meaning.Meaning.{Meaning}
use Rattle.planus_cli.specs.declared.parts.Word.{Word}
use Rattle.planus_cli.specs.declared.spots.Spot.{Spot}
use Rattle.planus_cli.specs.Changes.{SayingV, before_text, message_of, saying_of}
use Rattle.planus_cli.specs.Checks.{Joins}
use Rattle.planus_cli.specs.Json.{place_json, text_json, text_or_null}
use Rattle.planus_cli.specs.SchemaTexts.{IsPlaceAt, ReportsAt}
use Rattle.planus_cli.specs.Parts.{old_word, new_word, subject, is_needed}
use Rattle.planus_cli.specs.Parts.{declaration_told, part_told}
use Rattle.planus_cli.specs.Spots.{spot_of_word}

-- ---- what is said

-- of a break whose word in the new schema is this
abbrev pub saying_at : Schema → Word → Break → SayingV
saying_at new after one = saying_of one.change one.place (is_needed new.declarations.items after)

-- the message of a break whose words are these
abbrev pub message_at : Schema → Word → Schema → Word → Break → List ℕ
message_at old before new after one =
    message_of (saying_at new after one) (subject old before new after one.place)

-- ---- the members of a line of JSON

-- what changed, and whom that hurts
abbrev pub kind_json : SayingV → List ℕ
kind_json s = codes "{\"change\":" ++ (text_json s.word ++ (codes ",\"hurt\":" ++ text_json s.hurt))

-- what it is about
abbrev pub names_json : Option (List ℕ) → Option (List ℕ) → List ℕ
names_json declaration part = codes ",\"declaration\":" ++ (text_or_null declaration
    ++ (codes ",\"part\":" ++ text_or_null part))

-- what is said
abbrev pub texts_json : List ℕ → List ℕ → List ℕ
texts_json message advice = codes ",\"message\":" ++ (text_json message
    ++ (codes ",\"advice\":" ++ text_json advice))

-- where it is, and the end of the line
abbrev pub places_json : List ℕ → List ℕ → List ℕ
places_json new old = codes ",\"new\":" ++ (new ++ (codes ",\"old\":" ++ (old ++ codes "}\n")))

-- all but the places
abbrev pub change_json : SayingV → Option (List ℕ) → Option (List ℕ) → List ℕ → List ℕ
change_json s declaration part message =
    kind_json s ++ (names_json declaration part ++ texts_json message s.advice)

-- of a break whose words are these
abbrev pub change_at : Schema → Word → Schema → Word → Break → List ℕ
change_at old before new after one = change_json (saying_at new after one)
    (declaration_told old before new after) (part_told old before new after)
    (message_at old before new after one)

-- ---- the report of a break

-- the report of this message at a spot of these files
pub record ReportsIn (files : List File) (spot : Spot) (message report : List ℕ) : Type 0 where
  pub file : File
  pub here : slice_get files spot.file ≡ Some file
  pub is : ReportsAt (string_bytes file.name) file.text.items spot.left message report

-- The message at the place in the new schema, and then the place in the old one; or the message at
-- the one place that there is, or alone.
abbrev pub ReportsBoth : List File → Option Spot → List File → Option Spot → List ℕ → List ℕ
    → Type 0
ReportsBoth old (Some before) new (Some after) message report =
    Joins (ReportsIn new after message) (ReportsIn old before before_text) report
ReportsBoth old None new (Some after) message report = ReportsIn new after message report
ReportsBoth old (Some before) new None message report = ReportsIn old before message report
ReportsBoth old None new None message report = report ≡ message ++ 10 ∷ []

-- ---- the line of a break

-- the JSON of a spot of these files
pub record IsPlaceIn (files : List File) (spot : Spot) (json : List ℕ) : Type 0 where
  pub file : File
  pub here : slice_get files spot.file ≡ Some file
  pub at : ℕ
  pub place : IsPlaceAt file.text.items spot.left at
  pub is : json ≡ place_json (string_bytes file.name) (take at file.text.items)

-- of a spot, if there is one
abbrev pub IsPlaceOrNull : List File → Option Spot → List ℕ → Type 0
IsPlaceOrNull files None json = json ≡ codes "null"
IsPlaceOrNull files (Some spot) json = IsPlaceIn files spot json

-- the line that begins with these members, with the places that there are
pub record IsLine (old : List File) (before : Option Spot) (new : List File) (after : Option Spot)
    (change line : List ℕ) : Type 0 where
  pub new_place : List ℕ
  pub is_new : IsPlaceOrNull new after new_place
  pub old_place : List ℕ
  pub is_old : IsPlaceOrNull old before old_place
  pub is : line ≡ change ++ places_json new_place old_place

-- ---- both

-- what is said of a break whose words are these, but for its places
abbrev pub text_of : Bool → Schema → Word → Schema → Word → Break → List ℕ
text_of true old before new after one = change_at old before new after one
text_of false old before new after one = message_at old before new after one

-- a line of JSON, or a report
abbrev pub TellsAt : Bool → List File → Option Spot → List File → Option Spot → List ℕ → List ℕ
    → Type 0
TellsAt true old before new after text out = IsLine old before new after text out
TellsAt false old before new after text out = ReportsBoth old before new after text out

-- of a break whose words are these
abbrev pub TellsWords : Bool → Meaning → Word → Meaning → Word → Break → List ℕ → Type 0
TellsWords json old before new after one out =
    TellsAt json old.files.items (spot_of_word old before one.place)
    new.files.items (spot_of_word new after one.place)
    (text_of json old.schema before new.schema after one) out

-- of a break
abbrev pub TellsBreak : Bool → List Rename → Meaning → Meaning → Break → List ℕ → Type 0
TellsBreak json rs old new one out =
    TellsWords json old (old_word old.schema.declarations.items one) new
    (new_word rs old.schema.declarations.items new.schema.declarations.items one) one out

-- one after another
abbrev pub TellsBreaks : Bool → List Rename → Meaning → Meaning → List Break → List ℕ → Type 0
TellsBreaks json rs old new [] out = out ≡ []
TellsBreaks json rs old new (one ∷ rest) out =
    Joins (TellsBreak json rs old new one) (TellsBreaks json rs old new rest) out
