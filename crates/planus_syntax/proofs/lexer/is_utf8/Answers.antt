use Rattle.std.proofs.Common.{◌≡◌, ℕ, List, Bool, true, false, refl, sym}
use Rattle.std.specs.Str.{IsUtf8, is_utf8}
use Rattle.std.proofs.lemmas.Str.{IsUtf8-from_is_utf8, is_utf8-from_IsUtf8}
use Rattle.planus_syntax.proofs.lexer.is_utf8.Goals as goal

no_utf8 : (bs : List ℕ) (v : Bool) → is_utf8 bs ≡ v → (IsUtf8 bs → ⊥) → false ≡ v
no_utf8 bs true e n = absurd (n (IsUtf8-from_is_utf8 bs e))
no_utf8 bs false e n = refl

yes_utf8 : (bs : List ℕ) → IsUtf8 bs → true ≡ is_utf8 bs
yes_utf8 bs h = sym (is_utf8-from_IsUtf8 bs h)

pub returns-in-Ok : goal.returns-in-Ok
returns-in-Ok c = yes_utf8 c.args.bytes.now c.in-Ok.ensures.cases.1

pub returns-in-Err : goal.returns-in-Err
returns-in-Err c = no_utf8 c.args.bytes.now (is_utf8 c.args.bytes.now) refl c.in-Err.ensures.cases.0
