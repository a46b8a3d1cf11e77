use Rattle.std.proofs.Common.{◌∷◌, List, length, ap, sym, subst, ◌∙◌}
use Rattle.std.proofs.Math.ListN.{length-map}
use Rattle.planus_syntax.specs.Counting.{AttributesCounted, IfAny, KindCounted, LiteralCounted}
use Rattle.planus_syntax.proofs.Loops.{attributes_takes, kind_takes, literal_takes, mark_takes, optional_takes, word_takes}
use Rattle.planus_syntax.specs.Reading.{literal_at}
use Rattle.planus_syntax.specs.Values.{after_before, attributes_before, kind_before, literal_before}
use Rattle.planus_syntax.specs.Tokens.{Piece, mark, word}
use Rattle.std.proofs.Common.{refl}
use Rattle.planus_syntax.specs.Reading.{field_at}
use Rattle.planus_syntax.proofs.Steps.{fails_here, fails_later, reads_on}
use Rattle.planus_syntax.proofs.parse.tables.FieldsItems.item_at.Goals as goal

pub returns-in-Err : goal.returns-in-Err
unfolding field_at
returns-in-Err c = fails_here _ _ _ c.in-Err.ensures

pub returns-in-Err-word_at : goal.returns-in-Err-word_at
unfolding field_at
returns-in-Err-word_at c = fails_later _ _ _ _ c.in-Ok.ensures (fails_here _ _ _ c.in-Err-word_at.ensures)

pub returns-in-Err-mark_at : goal.returns-in-Err-mark_at
unfolding field_at
returns-in-Err-mark_at c = fails_later _ _ _ _ c.in-Ok.ensures (fails_later _ _ _ _ c.in-Ok-word_at.ensures (fails_here _ _ _ c.in-Err-mark_at.ensures))

pub returns-in-Err-kind_at : goal.returns-in-Err-kind_at
unfolding field_at
returns-in-Err-kind_at c = fails_later _ _ _ _ c.in-Ok.ensures (fails_later _ _ _ _ c.in-Ok-word_at.ensures (fails_later _ _ _ _ c.in-Ok-mark_at.ensures (fails_here _ _ _ c.in-Err-kind_at.ensures)))

pub returns-in-Err-literal_after : goal.returns-in-Err-literal_after
unfolding field_at
returns-in-Err-literal_after c = fails_later _ _ _ _ c.in-Ok.ensures (fails_later _ _ _ _ c.in-Ok-word_at.ensures (fails_later _ _ _ _ c.in-Ok-mark_at.ensures (fails_later _ _ _ _ c.in-Ok-kind_at.ensures.0 (fails_here _ _ _ c.in-Err-literal_after.ensures))))

pub returns-in-Err-attributes_at : goal.returns-in-Err-attributes_at
unfolding field_at
returns-in-Err-attributes_at c = fails_later _ _ _ _ c.in-Ok.ensures (fails_later _ _ _ _ c.in-Ok-word_at.ensures (fails_later _ _ _ _ c.in-Ok-mark_at.ensures (fails_later _ _ _ _ c.in-Ok-kind_at.ensures.0 (fails_later _ _ _ _ c.in-Ok-literal_after.ensures.0 (fails_here _ _ _ c.in-Err-attributes_at.ensures)))))

pub returns-in-Err-mark_at-2 : goal.returns-in-Err-mark_at-2
unfolding field_at
returns-in-Err-mark_at-2 c = fails_later _ _ _ _ c.in-Ok.ensures (fails_later _ _ _ _ c.in-Ok-word_at.ensures (fails_later _ _ _ _ c.in-Ok-mark_at.ensures (fails_later _ _ _ _ c.in-Ok-kind_at.ensures.0 (fails_later _ _ _ _ c.in-Ok-literal_after.ensures.0 (fails_later _ _ _ _ c.in-Ok-attributes_at.ensures.0 (fails_here _ _ _ c.in-Err-mark_at-2.ensures))))))

pub returns : goal.returns
unfolding field_at
returns c =
    let e6 = mark_takes 59 _ _ c.in-Ok-mark_at-2.ensures in
    let e5 = attributes_takes _ _ c.in-Ok-attributes_at.ensures.0 ∙ ap (attributes_before _) e6 in
    let e4 = optional_takes 61 literal_at literal_before literal_takes _ _ c.in-Ok-literal_after.ensures.0 ∙ ap (after_before 61 literal_before _) e5 in
    let e3 = kind_takes _ _ c.in-Ok-kind_at.ensures.0 ∙ ap (kind_before _) e4 in
    let e2 = mark_takes 58 _ _ c.in-Ok-mark_at.ensures ∙ ap (λ (r : List Piece). mark 58 ∷ r) e3 in
    let e1 = word_takes _ _ c.in-Ok-word_at.ensures ∙ ap (λ (r : List Piece). word c.in-Ok-word_at.value.0.items ∷ r) e2 in (
      reads_on _ _ _ _ c.in-Ok.ensures (reads_on _ _ _ _ c.in-Ok-word_at.ensures (reads_on _ _ _ _ c.in-Ok-mark_at.ensures (reads_on _ _ _ _ c.in-Ok-kind_at.ensures.0 (reads_on _ _ _ _ c.in-Ok-literal_after.ensures.0 (reads_on _ _ _ _ c.in-Ok-attributes_at.ensures.0 (reads_on _ _ _ _ c.in-Ok-mark_at-2.ensures refl)))))),
      record {
        name = sym (length-map c.in-Ok.value.1.now _) ∙ ap length e1;
        kind = subst (KindCounted c.in-Ok-kind_at.value.0) e4 c.in-Ok-kind_at.ensures.1;
        default = subst (IfAny LiteralCounted c.in-Ok-literal_after.value.0) e5 c.in-Ok-literal_after.ensures.1;
        attributes = subst (AttributesCounted c.in-Ok-attributes_at.value.0.items) e6 c.in-Ok-attributes_at.ensures.1;
      },
    )
