-- Results of the public functions.
use Rattle.std.specs.Prelude.{◌≡◌, ℕ, ◌-◌, ◌+◌, ◌≤◌, List, [], length, Result, Ok, Err}
use Rattle.std.specs.Global.{Vec}
use Rattle.planus_syntax.specs.declared.value.Schema.{Schema}
use Rattle.planus_syntax.specs.declared.parse.ParseError.{ParseError}
use Rattle.planus_syntax.specs.declared.parse.ParseError.TheVariants as errors
use Rattle.planus_syntax.specs.declared.text.SchemaError.{SchemaError}
use Rattle.planus_syntax.specs.declared.text.SchemaError.TheVariants as whole
use Rattle.planus_syntax.specs.Tokens.{Piece}
use Rattle.planus_syntax.specs.Values.{SchemaV, AreWhole, schema_of, schema_pieces}
use Rattle.planus_syntax.specs.Comments.{canonical, comments_in, elements_of}
use Rattle.planus_syntax.specs.Spelled.{Part, AreParts, spelled, tokens_in}
use Rattle.planus_syntax.specs.Reading.{Reads, schema_at}
use Rattle.planus_syntax.specs.Lexing.{lex_of}
use Rattle.planus_syntax.specs.Placing.{StandsAt}

-- The text is the schema's tokens, with blanks and comments between them.
abbrev pub Spells : List ℕ → SchemaV → Type 0
Spells text schema = (parts : List Part) × AreParts parts × (text ≡ spelled parts)
    × (schema_pieces schema ≡ tokens_in parts)

-- this schema, or memory was refused
abbrev pub ParsesTo : SchemaV → Result Schema ParseError → Type 0
ParsesTo schema (Ok s) = schema_of s ≡ schema
ParsesTo schema (Err errors.OutOfMemory) = Unit {0}
ParsesTo schema (Err (errors.Fault fault at)) = ⊥

abbrev pub AnswersParse : ℕ → Result Schema ParseError → Reads SchemaV → Type 0
AnswersParse len (Ok s) read = read ≡ Ok (schema_of s, [])
AnswersParse len (Err errors.OutOfMemory) read = Unit {0}
AnswersParse len (Err (errors.Fault fault index)) read =
    (left : ℕ) × (read ≡ Err (fault, left)) × (index ≡ len - left)

abbrev pub IsMemoryError : SchemaError → Type 0
IsMemoryError whole.OutOfMemory = Unit {0}
IsMemoryError (whole.Token fault at) = ⊥
IsMemoryError (whole.Declaration fault index at) = ⊥

abbrev pub TextParsesTo : SchemaV → Result Schema SchemaError → Type 0
TextParsesTo schema (Ok s) = schema_of s ≡ schema
TextParsesTo schema (Err e) = IsMemoryError e

-- The text spells a schema, and the other one is its canonical text, with its comments.
pub record HasCanonicalText (text out : List ℕ) : Type 0 where
  pub schema : SchemaV
  pub whole : AreWhole schema.declarations
  pub parts : List Part
  pub are : AreParts parts
  pub spells : text ≡ spelled parts
  pub tokens : schema_pieces schema ≡ tokens_in parts
  pub canonical : out ≡ canonical (elements_of parts)

-- Both texts spell one schema, and have the same comments, each once, in order.
pub record KeepsComments (text out : List ℕ) : Type 0 where
  pub schema : SchemaV
  pub parts : List Part
  pub again : List Part
  pub are : AreParts parts
  pub are_again : AreParts again
  pub spells : text ≡ spelled parts
  pub spells_again : out ≡ spelled again
  pub tokens : schema_pieces schema ≡ tokens_in parts
  pub tokens_again : schema_pieces schema ≡ tokens_in again
  pub comments : comments_in again ≡ comments_in parts

abbrev pub TextFormatsTo : List ℕ → Result (Vec ℕ) SchemaError → Type 0
TextFormatsTo bytes (Ok out) = out.items ≡ bytes
TextFormatsTo bytes (Err e) = IsMemoryError e

-- The tokens of the text, or of its declarations, have this error at this place.
abbrev pub IsFaultOf : List ℕ → SchemaError → Type 0
IsFaultOf text whole.OutOfMemory = Unit {0}
IsFaultOf text (whole.Token fault at) =
    (left : ℕ) × (lex_of text ≡ Err (fault, left)) × (at + left ≡ length text)
IsFaultOf text (whole.Declaration fault index at) =
    (ps : List Piece) × (left : ℕ) × (lex_of text ≡ Ok ps) × (schema_at ps ≡ Err (fault, left))
    × (index ≡ length ps - left) × StandsAt text ps index at

abbrev pub LiesIn : ℕ → SchemaError → Type 0
LiesIn len whole.OutOfMemory = Unit {0}
LiesIn len (whole.Token fault at) = at ≤ len
LiesIn len (whole.Declaration fault index at) = at ≤ len
