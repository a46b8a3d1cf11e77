-- What a walk adds to the text so far.
use Rattle.std.specs.Prelude.{◌≡◌, ℕ, ◌+◌, ◌<◌, ◌≤◌, List, ◌∷◌, ◌++◌, length, ⊤, Result, Ok, Err, Bool}
use Rattle.std.specs.String.{string_bytes}
use Rattle.planus_json.specs.Json.{Token, AreShown, are_first}
use Rattle.planus_json.specs.Outcomes.{EndsAt}
use Rattle.planus_json.specs.declared.printer.Printer.{Printer}
use Rattle.planus_json.specs.declared.json_error.JsonError.{JsonError}
use Rattle.planus_json.specs.declared.json_error.JsonError.TheVariants as errors

abbrev pub size_of : Printer → ℕ
size_of out = length (string_bytes out.text)

abbrev pub IsShort : Printer → Type 0
IsShort out = size_of out ≤ out.most

-- the tokens' text was added
pub record Adds (old : Printer) (given : List Token) (new : Printer) : Type 0 where
  pub text : List ℕ
  pub shown : AreShown old.strict old.first given text
  pub added : string_bytes new.text ≡ string_bytes old.text ++ text
  pub first : new.first ≡ are_first old.first given
  pub strict : new.strict ≡ old.strict
  pub most : new.most ≡ old.most
  pub short : IsShort old → IsShort new

-- the walk ends at one of the tokens
pub record Halts (old : Printer) (given : List Token) (error : JsonError) : Type 0 where
  pub front : List Token
  pub next : Token
  pub rest : List Token
  pub text : List ℕ
  pub split : given ≡ front ++ next ∷ rest
  pub shown : AreShown old.strict old.first front text
  pub short : IsShort old → size_of old + length text ≤ old.most
  pub ends : EndsAt old.strict (are_first old.first front) next (size_of old + length text) old.most
      error

abbrev pub Ends : Printer → List Token → JsonError → Type 0
Ends old given errors.OutOfMemory = ⊤
Ends old given errors.BadSchema = Halts old given errors.BadSchema
Ends old given errors.TooDeep = Halts old given errors.TooDeep
Ends old given errors.TooLong = Halts old given errors.TooLong
Ends old given (errors.Fault fault) = Halts old given (errors.Fault fault)

abbrev pub PrintResult : Type 0
PrintResult = Result (Unit {0}) JsonError

unfoldable pub Printed : Printer → List Token → PrintResult → Printer → Type 0
Printed old given (Ok u) new = Adds old given new
Printed old given (Err error) new = Ends old given error

abbrev pub Prints : Printer → List Token → PrintResult → Printer → Type 0
Prints old given result new = (ps : List Token) → ps ≡ given → Printed old ps result new

-- A token was printed: it is too long now, or the next may come.
abbrev pub IsEnded : Printer → Bool → PrintResult → Printer → Type 0
IsEnded old first (Ok u) new = (new ≡ record old { first = first }) × IsShort old
IsEnded old first (Err error) new = (error ≡ errors.TooLong) × (old.most < size_of old)
