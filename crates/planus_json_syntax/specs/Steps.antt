-- What the parts of the program return.
use Rattle.std.specs.Prelude.{◌≡◌, ℕ, ◌<◌, ◌≤◌, List, length, Result, Ok, Err, ⊤}
use Rattle.std.specs.Prelude.{true, false, ◌++◌}
use Rattle.std.specs.List.{list_all}
use Rattle.std.specs.Borrow.{Bor}
use Rattle.std.specs.String.{string_bytes}
use Rattle.planus_json_syntax.specs.declared.front.Front as code
use Rattle.planus_json_syntax.specs.declared.read_error.ReadError.{ReadError}
use Rattle.planus_json_syntax.specs.declared.read_error.ReadError.TheVariants as errors
use Rattle.planus_json_syntax.specs.declared.token.Token as tokens
use Rattle.planus_json_syntax.specs.declared.token.Token.TheVariants as token
use Rattle.planus_json_syntax.specs.Strings.{Fault}
use Rattle.planus_json_syntax.specs.Tokens.{Token, mark, word, text, Front, skip}
use Rattle.planus_json_syntax.specs.Tokens.{is_word_byte, begins_word}

abbrev pub token_view : tokens.Token → Token
token_view (token.Mark m) = mark m
token_view (token.Word w) = word (string_bytes w)
token_view (token.Text s) = text (string_bytes s)

abbrev pub front_view : code.Front → Front
front_view front = record {
  token = token_view front.token;
  left = front.left;
  rest = front.rest.now;
}

-- the token begins in these bytes, and fewer follow it
pub record FitsIn (front : code.Front) (bytes : List ℕ) : Type 0 where
  pub begins : front.left ≤ length bytes
  pub shorter : length front.rest.now < front.left

-- how many bytes are left at a fault
abbrev pub left_of : ReadError → ℕ
left_of errors.OutOfMemory = 0
left_of (errors.Fault kind left) = left

-- the fault of what is read, or memory was refused
abbrev pub Fails : {Y : Type 0} → ReadError → Result Y Fault → Type 0
Fails errors.OutOfMemory read = ⊤
Fails (errors.Fault kind left) read = read ≡ Err (kind, left)

-- what was read, or why it was not
abbrev pub Gives : {X Y : Type 0} → (X → Y) → Result X ReadError → Result Y Fault → Type 0
Gives view (Ok x) read = read ≡ Ok (view x)
Gives view (Err error) read = Fails error read

-- what follows a comment, which is skipped
abbrev pub Skips : Result (List ℕ) Fault → Result (Bor (List ℕ)) ReadError → Type 0
Skips skipped (Ok rest) = skipped ≡ skip rest.now
Skips skipped (Err error) = Fails error skipped

-- a word at the front, and the rest, whose first byte isn't one of a word
pub record Splits (bytes front rest : List ℕ) : Type 0 where
  pub whole : bytes ≡ front ++ rest
  pub each : list_all is_word_byte front ≡ true
  pub stops : begins_word rest ≡ false
