use Rattle.std.proofs.Common.{◌∷◌, List, length, ap, sym, ◌∙◌}
use Rattle.std.proofs.Math.ListN.{length-map}
use Rattle.planus_syntax.proofs.Loops.{number_takes, optional_takes, word_takes}
use Rattle.planus_syntax.specs.Reading.{number_at}
use Rattle.planus_syntax.specs.Values.{number_before}
use Rattle.planus_syntax.specs.Tokens.{Piece, word}
use Rattle.std.proofs.Common.{refl}
use Rattle.planus_syntax.specs.Reading.{variant_at}
use Rattle.planus_syntax.proofs.Steps.{fails_here, fails_later, reads_on}
use Rattle.planus_syntax.proofs.parse.enums.variant_at.Goals as goal

pub returns-in-Err : goal.returns-in-Err
unfolding variant_at
returns-in-Err c = fails_here _ _ _ c.in-Err.ensures

pub returns-in-Err-word_at : goal.returns-in-Err-word_at
unfolding variant_at
returns-in-Err-word_at c = fails_later _ _ _ _ c.in-Ok.ensures (fails_here _ _ _ c.in-Err-word_at.ensures)

pub returns-in-Err-number_after : goal.returns-in-Err-number_after
unfolding variant_at
returns-in-Err-number_after c = fails_later _ _ _ _ c.in-Ok.ensures (fails_later _ _ _ _ c.in-Ok-word_at.ensures (fails_here _ _ _ c.in-Err-number_after.ensures))

pub returns : goal.returns
unfolding variant_at
returns c =
    let e2 = optional_takes 61 number_at number_before number_takes _ _ c.in-Ok-number_after.ensures in
    let e1 = word_takes _ _ c.in-Ok-word_at.ensures ∙ ap (λ (r : List Piece). word c.in-Ok-word_at.value.0.items ∷ r) e2 in (
      reads_on _ _ _ _ c.in-Ok.ensures (reads_on _ _ _ _ c.in-Ok-word_at.ensures (reads_on _ _ _ _ c.in-Ok-number_after.ensures refl)),
      sym (length-map c.in-Ok.value.1.now _) ∙ ap length e1,
    )
