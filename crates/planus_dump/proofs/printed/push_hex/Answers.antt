use Rattle.std.proofs.Common.{◌≡◌, ◌/◌, ◌%◌, List, ℕ, [], ◌∷◌, ◌++◌, ap, ◌∙◌}
use Rattle.std.proofs.lemmas.List.{append_assoc}
use Rattle.std.specs.Char.{digit_char}
use Rattle.std.specs.String.{string_bytes}
use Rattle.planus_dump.proofs.printed.push_hex.Goals as goal

two_pushed : (text between after first second one two : List ℕ) → between ≡ text ++ first → first ≡ one → after ≡ between ++ second → second ≡ two
    → after ≡ text ++ (one ++ two)
two_pushed text between after first second one two b f a s =
    a ∙ ap (λ before. before ++ second) b ∙ ap (λ digit. (text ++ digit) ++ second) f ∙ ap (λ digit. (text ++ one) ++ digit) s ∙ append_assoc text one two

pub returns : goal.returns
returns c =
    two_pushed (string_bytes c.args.text.now) _ _ _ _ (digit_char (c.args.byte / 16) ∷ []) (digit_char (c.args.byte % 16) ∷ [])
    c.in_ok-push.ensures.bytes (c.push.ensures.ascii c.hex_digit.ensures.ascii ∙ ap (λ digit. digit ∷ []) c.hex_digit.ensures.digit)
    c.in_ok-push-2.ensures.bytes (c.push-2.ensures.ascii c.hex_digit-2.ensures.ascii ∙ ap (λ digit. digit ∷ []) c.hex_digit-2.ensures.digit)
