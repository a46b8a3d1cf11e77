use Rattle.std.proofs.Common.{◌∷◌, List, length, ap, sym, subst, ◌∙◌}
use Rattle.std.proofs.Math.ListN.{length-map}
use Rattle.planus_syntax.specs.Counting.{AttributesCounted, PathCounted}
use Rattle.planus_syntax.proofs.Loops.{attributes_takes, mark_takes, path_takes, word_takes}
use Rattle.planus_syntax.specs.Values.{attributes_before, path_before}
use Rattle.planus_syntax.specs.Tokens.{Piece, mark, word}
use Rattle.std.proofs.Common.{refl}
use Rattle.planus_syntax.specs.Reading.{method_at}
use Rattle.planus_syntax.proofs.Steps.{fails_here, fails_later, reads_on}
use Rattle.planus_syntax.proofs.parse.services.MethodsItems.item_at.Goals as goal

pub returns-in-Err : goal.returns-in-Err
unfolding method_at
returns-in-Err c = fails_here _ _ _ c.in-Err.ensures

pub returns-in-Err-word_at : goal.returns-in-Err-word_at
unfolding method_at
returns-in-Err-word_at c = fails_later _ _ _ _ c.in-Ok.ensures (fails_here _ _ _ c.in-Err-word_at.ensures)

pub returns-in-Err-mark_at : goal.returns-in-Err-mark_at
unfolding method_at
returns-in-Err-mark_at c = fails_later _ _ _ _ c.in-Ok.ensures (fails_later _ _ _ _ c.in-Ok-word_at.ensures (fails_here _ _ _ c.in-Err-mark_at.ensures))

pub returns-in-Err-path_at : goal.returns-in-Err-path_at
unfolding method_at
returns-in-Err-path_at c = fails_later _ _ _ _ c.in-Ok.ensures (fails_later _ _ _ _ c.in-Ok-word_at.ensures (fails_later _ _ _ _ c.in-Ok-mark_at.ensures (fails_here _ _ _ c.in-Err-path_at.ensures)))

pub returns-in-Err-mark_at-2 : goal.returns-in-Err-mark_at-2
unfolding method_at
returns-in-Err-mark_at-2 c = fails_later _ _ _ _ c.in-Ok.ensures (fails_later _ _ _ _ c.in-Ok-word_at.ensures (fails_later _ _ _ _ c.in-Ok-mark_at.ensures (fails_later _ _ _ _ c.in-Ok-path_at.ensures.0 (fails_here _ _ _ c.in-Err-mark_at-2.ensures))))

pub returns-in-Err-mark_at-3 : goal.returns-in-Err-mark_at-3
unfolding method_at
returns-in-Err-mark_at-3 c = fails_later _ _ _ _ c.in-Ok.ensures (fails_later _ _ _ _ c.in-Ok-word_at.ensures (fails_later _ _ _ _ c.in-Ok-mark_at.ensures (fails_later _ _ _ _ c.in-Ok-path_at.ensures.0 (fails_later _ _ _ _ c.in-Ok-mark_at-2.ensures (fails_here _ _ _ c.in-Err-mark_at-3.ensures)))))

pub returns-in-Err-path_at-2 : goal.returns-in-Err-path_at-2
unfolding method_at
returns-in-Err-path_at-2 c = fails_later _ _ _ _ c.in-Ok.ensures (fails_later _ _ _ _ c.in-Ok-word_at.ensures (fails_later _ _ _ _ c.in-Ok-mark_at.ensures (fails_later _ _ _ _ c.in-Ok-path_at.ensures.0 (fails_later _ _ _ _ c.in-Ok-mark_at-2.ensures (fails_later _ _ _ _ c.in-Ok-mark_at-3.ensures (fails_here _ _ _ c.in-Err-path_at-2.ensures))))))

pub returns-in-Err-attributes_at : goal.returns-in-Err-attributes_at
unfolding method_at
returns-in-Err-attributes_at c = fails_later _ _ _ _ c.in-Ok.ensures (fails_later _ _ _ _ c.in-Ok-word_at.ensures (fails_later _ _ _ _ c.in-Ok-mark_at.ensures (fails_later _ _ _ _ c.in-Ok-path_at.ensures.0 (fails_later _ _ _ _ c.in-Ok-mark_at-2.ensures (fails_later _ _ _ _ c.in-Ok-mark_at-3.ensures (fails_later _ _ _ _ c.in-Ok-path_at-2.ensures.0 (fails_here _ _ _ c.in-Err-attributes_at.ensures)))))))

pub returns-in-Err-mark_at-4 : goal.returns-in-Err-mark_at-4
unfolding method_at
returns-in-Err-mark_at-4 c = fails_later _ _ _ _ c.in-Ok.ensures (fails_later _ _ _ _ c.in-Ok-word_at.ensures (fails_later _ _ _ _ c.in-Ok-mark_at.ensures (fails_later _ _ _ _ c.in-Ok-path_at.ensures.0 (fails_later _ _ _ _ c.in-Ok-mark_at-2.ensures (fails_later _ _ _ _ c.in-Ok-mark_at-3.ensures (fails_later _ _ _ _ c.in-Ok-path_at-2.ensures.0 (fails_later _ _ _ _ c.in-Ok-attributes_at.ensures.0 (fails_here _ _ _ c.in-Err-mark_at-4.ensures))))))))

pub returns : goal.returns
unfolding method_at
returns c =
    let e8 = mark_takes 59 _ _ c.in-Ok-mark_at-4.ensures in
    let e7 = attributes_takes _ _ c.in-Ok-attributes_at.ensures.0 ∙ ap (attributes_before _) e8 in
    let e6 = path_takes _ _ c.in-Ok-path_at-2.ensures.0 ∙ ap (path_before _) e7 in
    let e5 = mark_takes 58 _ _ c.in-Ok-mark_at-3.ensures ∙ ap (λ (r : List Piece). mark 58 ∷ r) e6 in
    let e4 = mark_takes 41 _ _ c.in-Ok-mark_at-2.ensures ∙ ap (λ (r : List Piece). mark 41 ∷ r) e5 in
    let e3 = path_takes _ _ c.in-Ok-path_at.ensures.0 ∙ ap (path_before _) e4 in
    let e2 = mark_takes 40 _ _ c.in-Ok-mark_at.ensures ∙ ap (λ (r : List Piece). mark 40 ∷ r) e3 in
    let e1 = word_takes _ _ c.in-Ok-word_at.ensures ∙ ap (λ (r : List Piece). word c.in-Ok-word_at.value.0.items ∷ r) e2 in (
      reads_on _ _ _ _ c.in-Ok.ensures (reads_on _ _ _ _ c.in-Ok-word_at.ensures (reads_on _ _ _ _ c.in-Ok-mark_at.ensures (reads_on _ _ _ _ c.in-Ok-path_at.ensures.0 (reads_on _ _ _ _ c.in-Ok-mark_at-2.ensures (reads_on _ _ _ _ c.in-Ok-mark_at-3.ensures (reads_on _ _ _ _ c.in-Ok-path_at-2.ensures.0 (reads_on _ _ _ _ c.in-Ok-attributes_at.ensures.0 (reads_on _ _ _ _ c.in-Ok-mark_at-4.ensures refl)))))))),
      record {
        name = sym (length-map c.in-Ok.value.1.now _) ∙ ap length e1;
        request = subst (PathCounted c.in-Ok-path_at.value.0) e4 c.in-Ok-path_at.ensures.1;
        response = subst (PathCounted c.in-Ok-path_at-2.value.0) e7 c.in-Ok-path_at-2.ensures.1;
        attributes = subst (AttributesCounted c.in-Ok-attributes_at.value.0.items) e8 c.in-Ok-attributes_at.ensures.1;
      },
    )
