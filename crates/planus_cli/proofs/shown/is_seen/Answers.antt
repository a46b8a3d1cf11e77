use Rattle.std.proofs.Common.{◌≡◌, ℕ, List, Bool, true, false, refl, sym, ap, ◌∙◌}
use Rattle.std.specs.Prelude.{not, ◌&&◌}
use Rattle.std.specs.List.{list_any}
use Rattle.std.specs.Str.{IsUtf8, is_utf8, chars}
use Rattle.std.proofs.lemmas.Str.{IsUtf8-from_is_utf8, is_utf8-from_IsUtf8}
use Rattle.planus_cli.specs.Shown.{is_hidden, is_seen}
use Rattle.planus_cli.proofs.shown.is_seen.Goals as goal

no_utf8 : (bs : List ℕ) (v : Bool) → is_utf8 bs ≡ v → (IsUtf8 bs → ⊥)
    → false ≡ v && not (list_any is_hidden (chars bs))
no_utf8 bs true e n = absurd (n (IsUtf8-from_is_utf8 bs e))
no_utf8 bs false e n = refl

yes_utf8 : (text bs : List ℕ) → text ≡ bs → IsUtf8 bs → not (list_any is_hidden (chars text)) ≡ is_seen bs
yes_utf8 text bs e h =
    ap (λ t. not (list_any is_hidden (chars t))) e
    ∙ sym (ap (λ v. v && not (list_any is_hidden (chars bs))) (is_utf8-from_IsUtf8 bs h))

pub returns-in-Ok : goal.returns-in-Ok
returns-in-Ok c =
    ap not c.has_hidden.ensures ∙ yes_utf8 c.in-Ok.text.now c.args.bytes.now c.in-Ok.ensures.cases.0 c.in-Ok.ensures.cases.1

pub returns-in-Err : goal.returns-in-Err
returns-in-Err c = no_utf8 c.args.bytes.now (is_utf8 c.args.bytes.now) refl c.in-Err.ensures.cases.0
