use Rattle.std.proofs.Common.{◌∷◌, List, length, ap, sym, ◌∙◌}
use Rattle.std.proofs.Math.ListN.{length-map}
use Rattle.planus_syntax.proofs.Many.{list_takes}
use Rattle.planus_syntax.proofs.Loops.{dotted_takes, word_takes}
use Rattle.planus_syntax.specs.Values.{dotted_before}
use Rattle.planus_syntax.specs.Reading.{begins_mark, dotted_at}
use Rattle.planus_syntax.specs.Tokens.{Piece, word}
use Rattle.std.proofs.Common.{refl}
use Rattle.planus_syntax.specs.Reading.{path_at}
use Rattle.planus_syntax.proofs.Steps.{fails_here, fails_later, reads_on}
use Rattle.planus_syntax.proofs.Loops.{dotted_looped}
use Rattle.planus_syntax.proofs.parse.paths.path_at.Goals as goal

pub returns-in-Err : goal.returns-in-Err
unfolding path_at
returns-in-Err c = fails_here _ _ _ c.in-Err.ensures

pub returns-in-Err-list_of : goal.returns-in-Err-list_of
unfolding path_at
returns-in-Err-list_of c = fails_later _ _ _ _ c.in-Ok.ensures (fails_here _ _ _ c.in-Err-list_of.ensures.reads)

pub returns : goal.returns
unfolding path_at
returns c =
    let e2 = (list_takes (begins_mark 46) dotted_at dotted_before dotted_looped dotted_takes _ _ c.in-Ok-list_of.ensures.reads.0).0 in
    let e1 = word_takes _ _ c.in-Ok.ensures ∙ ap (λ (r : List Piece). word c.in-Ok.value.0.items ∷ r) e2 in (
      reads_on _ _ _ _ c.in-Ok.ensures (reads_on _ _ _ _ c.in-Ok-list_of.ensures.reads.0 refl),
      sym (length-map c.args.tokens.now _) ∙ ap length e1,
    )

pub list_of-requires : goal.list_of-requires
list_of-requires c = (dotted_looped, dotted_takes)
