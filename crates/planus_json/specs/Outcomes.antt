-- The JSON of a buffer, or why it has none.
use Rattle.std.specs.Prelude.{◌≡◌, ℕ, ◌+◌, ◌<◌, ◌≤◌, List, [], ◌∷◌, ◌++◌, length, ⊤, codes}
use Rattle.std.specs.Prelude.{Bool, true, false, Result, Ok, Err, String}
use Rattle.std.specs.String.{string_bytes}
use Rattle.std.specs.declared.alloc.Global.{Global}
use Rattle.planus_dump.specs.Schemas.{is_good}
use Rattle.planus_dump.specs.declared.schemas.Schema.{Schema}
use Rattle.planus_json.specs.Trees.{tree_of}
use Rattle.planus_json.specs.Json.{Token, fault, deep, tokens, Shows, AreShown, are_first}
use Rattle.planus_json.specs.declared.layout.Layout.{Layout}
use Rattle.planus_json.specs.declared.json_error.JsonError.{JsonError}
use Rattle.planus_json.specs.declared.json_error.JsonError.TheVariants as errors

-- the first line of a layout
abbrev pub first_line : Bool → List ℕ
first_line true = []
first_line false = codes "\n"

-- the tokens of the buffer at 0
abbrev pub json_tokens : Layout → Schema → List ℕ → List Token
json_tokens layout schema bytes = tokens (first_line layout.compact) (tree_of schema bytes)

-- This is the token at which text of at most so many bytes ends, for the error.
abbrev pub EndsAt : Bool → Bool → Token → ℕ → ℕ → JsonError → Type 0
EndsAt strict first next size most (errors.Fault f) =
    next ≡ fault (string_bytes f.path) (string_bytes f.message)
EndsAt strict first next size most errors.TooDeep = next ≡ deep
EndsAt strict first next size most errors.TooLong =
    (text : List ℕ) × Shows strict first next text × (most < size + length text)
EndsAt strict first next size most errors.BadSchema = ⊥
EndsAt strict first next size most errors.OutOfMemory = ⊥

-- The tokens before one have this text, which isn't too long.
pub record StopsAt
    (strict : Bool) (given : List Token) (most : ℕ) (error : JsonError) : Type 0 where
  pub front : List Token
  pub next : Token
  pub rest : List Token
  pub text : List ℕ
  pub split : given ≡ front ++ next ∷ rest
  pub shown : AreShown strict true front text
  pub fits : length text ≤ most
  pub ends : EndsAt strict (are_first true front) next (length text) most error

-- The text of all tokens, or the first of them that states an error, is too deep, or makes the text
-- too long. Out of memory is allowed.
abbrev pub AnswersTokens : Bool → List Token → ℕ → Result (String Global) JsonError → Type 0
AnswersTokens strict given most (Ok text) =
    AreShown strict true given (string_bytes text) × (length (string_bytes text) ≤ most)
AnswersTokens strict given most (Err (errors.Fault f)) = StopsAt strict given most (errors.Fault f)
AnswersTokens strict given most (Err errors.TooDeep) = StopsAt strict given most errors.TooDeep
AnswersTokens strict given most (Err errors.TooLong) = StopsAt strict given most errors.TooLong
AnswersTokens strict given most (Err errors.BadSchema) = ⊥
AnswersTokens strict given most (Err errors.OutOfMemory) = ⊤

-- `BadSchema` exactly for a bad schema, else the answer for the tokens
abbrev pub IsJson :
    Schema → List ℕ → Layout → ℕ → Result (String Global) JsonError → Type 0
IsJson schema bytes layout most (Err errors.BadSchema) = is_good schema ≡ false
IsJson schema bytes layout most result =
    (is_good schema ≡ true)
    × AnswersTokens layout.strict (json_tokens layout schema bytes) most result
