-- What is read, and what is spelled.
use Rattle.std.proofs.Common.{◌≡◌, ℕ, List, sym, ◌∙◌, Result, Ok, Err}
use Rattle.planus_json_syntax.specs.Strings.{Fault}
use Rattle.planus_json_syntax.specs.Values.{JsonV}
use Rattle.planus_json_syntax.specs.Reading.{read}
use Rattle.planus_json_syntax.specs.Spelling.{Spells}
use Rattle.planus_json_syntax.proofs.SpelledValues.{spelled_read}

abbrev read_as : List JsonV → Result (List JsonV) Fault
read_as js = Ok js

same : (a b : List JsonV) → read_as a ≡ read_as b → a ≡ b
same a b e = cc

pub only_these : (bytes : List ℕ) (a b : List JsonV) → read bytes ≡ Ok a → Spells bytes b → a ≡ b
only_these bytes a b e x = same a b (sym e ∙ spelled_read bytes b x)

not_both : (r : Result (List JsonV) Fault) (a : List JsonV) (f : Fault) → r ≡ Ok a → r ≡ Err f → ⊥
not_both r a f e g = cc

pub none_spelled : (bytes : List ℕ) (f : Fault) (js : List JsonV) → read bytes ≡ Err f → Spells bytes js → ⊥
none_spelled bytes f js e x = not_both (read bytes) js f (spelled_read bytes js x) e
