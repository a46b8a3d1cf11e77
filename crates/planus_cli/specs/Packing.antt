-- What `binary` writes of JSON.
use Rattle.std.specs.Prelude.{◌≡◌, ℕ, Bool, true, false, ◌&&◌, nat_lt, List, [], codes}
use Rattle.std.specs.Prelude.{length, MatchBool, Option, Some, None, Result, Ok, Err}
use Rattle.std.specs.Option.{option_map}
use Rattle.std.specs.Global.{Vec}
use Rattle.std.specs.Io.KnownBytes.{Appends}
use Rattle.planus_json_syntax.specs.Texts.{kind_text}
use Rattle.planus_pack.specs.Packs.{Packs, Fails}
use Rattle.planus_pack.specs.declared.pack_error.PackError.{PackError}
use Rattle.planus_pack.specs.declared.pack_error.PackError.TheVariants as errors
use Rattle.planus_pack.specs.declared.pack_options.PackOptions.{PackOptions}
use Rattle.planus_schema.specs.declared.schema.Schema.{Schema}
use Rattle.planus_write.specs.Shared.{CacheSettings}
use Rattle.planus_write.specs.View.{settings_of}
use Rattle.planus_cli.specs.declared.binary.Packing.{Packing}
use Rattle.planus_cli.specs.declared.binary.Target.{Target}
use Rattle.planus_cli.specs.Arguments.{WordsV, limit_of}
use Rattle.planus_cli.specs.Buffers.{HasNoRoot, root_of}
use Rattle.planus_cli.specs.Disks.{Disk}
use Rattle.planus_cli.specs.Each.{Does}
use Rattle.planus_cli.specs.Files.{PutsFile}
use Rattle.planus_cli.specs.PackTexts.{fault_message, not_one_message, unwritten_message}
use Rattle.planus_cli.specs.Reports.{report_text}
use Rattle.planus_cli.specs.SchemaTexts.{line_of}

-- how texts are packed: what is written once, how, by which schema, its root, the identifier of
-- buffers, and whether each is after its size
pub record Manner : Type 0 where
  pub settings : CacheSettings
  pub options : PackOptions
  pub schema : Schema
  pub root : ℕ
  pub id : Option (List ℕ)
  pub sized : Bool

abbrev pub packing_of : Packing → Manner
packing_of how = record {
  settings = settings_of how.caches;
  options = how.options;
  schema = how.schema.now;
  root = how.root;
  id = how.id;
  sized = how.sized;
}

-- the bytes that a text is packed as, or why it has none
abbrev pub IsPacked : Manner → List ℕ → Result (Vec ℕ) PackError → Type 0
IsPacked how text (Ok bytes) =
    Packs how.settings how.options how.schema how.root how.id how.sized text bytes.items
IsPacked how text (Err error) =
    Fails how.settings how.options how.schema how.root how.id how.sized text error

-- ---- what is written

-- the file that a buffer goes to, or standard output, and the greatest number of its bytes
pub record TargetV : Type 0 where
  pub file : Option (List ℕ)
  pub most : ℕ

abbrev pub target_of : Target → TargetV
target_of to = record { file = option_map (λ w. w.now) to.file; most = to.most }

-- The file has these bytes, or it was said that it isn't written; or they are on standard output.
abbrev pub WritesWhole : Disk → Option (List ℕ) → List ℕ → Does
WritesWhole disk (Some file) bytes status before after unsaid said =
    (after ≡ before) × PutsFile disk file bytes status unsaid said
WritesWhole disk None bytes status before after unsaid said =
    (status ≡ 0) × Appends before after bytes × (said ≡ unsaid)

-- It was only said that a buffer is too long.
abbrev pub SaysTooLong : List ℕ → Does
SaysTooLong name status before after unsaid said = (status ≡ 1) × (after ≡ before)
    × Appends unsaid said (line_of [] name (codes ": its buffer is too long; see --bytes"))

-- A buffer was written, or it was only said that it is too long.
abbrev pub WritesBuffer : Disk → TargetV → List ℕ → List ℕ → Does
WritesBuffer disk to name bytes status before after unsaid said =
    MatchBool (nat_lt to.most (length bytes))
    (SaysTooLong name status before after unsaid said)
    (WritesWhole disk to.file bytes status before after unsaid said)

-- ---- what is said

-- It was said why a text has no buffer.
abbrev pub SaysError : List ℕ → List ℕ → PackError → Option (List ℕ) → Option (List ℕ) → Type 0
SaysError name text errors.OutOfMemory unsaid said = ⊥
SaysError name text (errors.Text at kind) unsaid said =
    Appends unsaid said (report_text name text at (kind_text kind))
SaysError name text (errors.NotOne at) unsaid said =
    Appends unsaid said (report_text name text at (not_one_message (length text) at))
SaysError name text (errors.Fault at kind) unsaid said =
    Appends unsaid said (report_text name text at (fault_message kind text at))
SaysError name text (errors.Replay error) unsaid said =
    Appends unsaid said (line_of [] name (unwritten_message error))

-- The bytes were written, and nothing else; or only the error was said.
abbrev pub WritesOutcome : Disk → TargetV → List ℕ → List ℕ → Result (Vec ℕ) PackError → Does
WritesOutcome disk to name text (Ok bytes) status before after unsaid said =
    WritesBuffer disk to name bytes.items status before after unsaid said
WritesOutcome disk to name text (Err error) status before after unsaid said =
    (status ≡ 1) × (after ≡ before) × SaysError name text error unsaid said

-- The buffer of a text was written, or it was said why it has none.
pub record PacksText (disk : Disk) (how : Manner) (to : TargetV) (name text : List ℕ) (status : ℕ)
    (before after unsaid said : Option (List ℕ)) : Type 0 where
  pub outcome : Result (Vec ℕ) PackError
  pub is : IsPacked how text outcome
  pub written : WritesOutcome disk to name text outcome status before after unsaid said

-- ---- what the words of the call say

-- equal vtables are written once, and equal strings and byte vectors where that is asked for
abbrev pub settings : Bool → CacheSettings
settings share = record { texts_on = share; byte_lists_on = share; vtables_on = true }

abbrev pub options_of : WordsV → PackOptions
options_of words =
    record { omit_defaults = words.omit_defaults; skip_unknown = words.skip_unknown }

-- the schema's identifier, where it is asked for
abbrev pub id_of : Schema → Bool → Option (List ℕ)
id_of schema false = None
id_of schema true = option_map (λ v. v.items) schema.statements.identifier

abbrev pub is_absent : Option (Vec ℕ) → Bool
is_absent None = true
is_absent (Some v) = false

-- it is asked for, and the schema has none
abbrev pub lacks_id : Schema → Bool → Bool
lacks_id schema asked = asked && is_absent schema.statements.identifier

abbrev pub manner : Schema → WordsV → ℕ → Manner
manner schema words root = record {
  settings = settings words.share;
  options = options_of words;
  schema = schema;
  root = root;
  id = id_of schema words.identifier;
  sized = words.size_prefixed;
}

abbrev pub target : WordsV → TargetV
target words = record { file = words.output_file; most = limit_of words.bytes 67108864 }

-- It was only said that the schema has no identifier, with status 2.
abbrev pub HasNoId : Does
HasNoId status before after unsaid said = (status ≡ 2) × (after ≡ before)
    × Appends unsaid said (line_of (codes "the schema has no identifier for --identifier") [] [])

-- A text was packed as the table of this index, with an identifier that there is.
abbrev pub PacksAs : Disk → Schema → WordsV → ℕ → List ℕ → List ℕ → Does
PacksAs disk schema words root name text status before after unsaid said =
    MatchBool (lacks_id schema words.identifier)
    (HasNoId status before after unsaid said)
    (PacksText disk (manner schema words root) (target words) name text status
    before after unsaid said)

-- It was packed as this root, or it was said that there is none, with status 2.
abbrev pub PacksRoot : Option ℕ → Disk → Schema → WordsV → List ℕ → List ℕ → Does
PacksRoot (Some root) disk schema words name text status before after unsaid said =
    PacksAs disk schema words root name text status before after unsaid said
PacksRoot None disk schema words name text status before after unsaid said =
    HasNoRoot words.root status before after unsaid said

-- what `binary` does with a schema and the JSON of a file, as these words say
abbrev pub PacksBy : Disk → Schema → WordsV → List ℕ → List ℕ → Does
PacksBy disk schema words name text status before after unsaid said =
    PacksRoot (root_of schema words.root) disk schema words name text status
    before after unsaid said
