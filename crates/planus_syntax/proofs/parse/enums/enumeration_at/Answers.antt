use Rattle.std.proofs.Common.{◌∷◌, List, ap, subst, ◌∙◌}
use Rattle.planus_syntax.specs.Counting.{AttributesCounted, EachCounted, PathCounted, VariantCounted}
use Rattle.planus_syntax.proofs.Loops.{closing_takes, attributes_takes, comma_takes, mark_takes, variants_inside_take}
use Rattle.planus_syntax.specs.Values.{attributes_before, comma_before, list_before, next_before, variant_before, variant_of}
use Rattle.planus_syntax.specs.Tokens.{Piece, mark}
use Rattle.std.proofs.Common.{refl}
use Rattle.planus_syntax.specs.Reading.{enumeration_at}
use Rattle.planus_syntax.proofs.Steps.{fails_here, fails_later, reads_on}
use Rattle.planus_syntax.proofs.parse.enums.enumeration_at.Goals as goal

pub returns-in-Err : goal.returns-in-Err
unfolding enumeration_at
returns-in-Err c = fails_here _ _ _ (fails_here _ _ _ c.in-Err.ensures)

pub returns-in-Err-mark_at : goal.returns-in-Err-mark_at
unfolding enumeration_at
returns-in-Err-mark_at c = fails_here _ _ _ (fails_later _ _ _ _ c.in-Ok.ensures (fails_here _ _ _ c.in-Err-mark_at.ensures))

pub returns-in-Err-path_at : goal.returns-in-Err-path_at
unfolding enumeration_at
returns-in-Err-path_at c = fails_here _ _ _ (fails_later _ _ _ _ c.in-Ok.ensures (fails_later _ _ _ _ c.in-Ok-mark_at.ensures (fails_here _ _ _ c.in-Err-path_at.ensures)))

pub returns-in-Err-attributes_at : goal.returns-in-Err-attributes_at
unfolding enumeration_at
returns-in-Err-attributes_at c = fails_here _ _ _ (fails_later _ _ _ _ c.in-Ok.ensures (fails_later _ _ _ _ c.in-Ok-mark_at.ensures (fails_later _ _ _ _ c.in-Ok-path_at.ensures.0 (fails_here _ _ _ c.in-Err-attributes_at.ensures))))

pub returns-in-Err-mark_at-2 : goal.returns-in-Err-mark_at-2
unfolding enumeration_at
returns-in-Err-mark_at-2 c = fails_here _ _ _ (fails_later _ _ _ _ c.in-Ok.ensures (fails_later _ _ _ _ c.in-Ok-mark_at.ensures (fails_later _ _ _ _ c.in-Ok-path_at.ensures.0 (fails_later _ _ _ _ c.in-Ok-attributes_at.ensures.0 (fails_here _ _ _ c.in-Err-mark_at-2.ensures)))))

pub returns-in-Err-variants_inside : goal.returns-in-Err-variants_inside
unfolding enumeration_at
returns-in-Err-variants_inside c = fails_here _ _ _ (fails_later _ _ _ _ c.in-Ok.ensures (fails_later _ _ _ _ c.in-Ok-mark_at.ensures (fails_later _ _ _ _ c.in-Ok-path_at.ensures.0 (fails_later _ _ _ _ c.in-Ok-attributes_at.ensures.0 (fails_later _ _ _ _ c.in-Ok-mark_at-2.ensures (fails_here _ _ _ c.in-Err-variants_inside.ensures))))))

pub returns-in-Err-comma_at : goal.returns-in-Err-comma_at
unfolding enumeration_at
returns-in-Err-comma_at c = fails_here _ _ _ (fails_later _ _ _ _ c.in-Ok.ensures (fails_later _ _ _ _ c.in-Ok-mark_at.ensures (fails_later _ _ _ _ c.in-Ok-path_at.ensures.0 (fails_later _ _ _ _ c.in-Ok-attributes_at.ensures.0 (fails_later _ _ _ _ c.in-Ok-mark_at-2.ensures (fails_later _ _ _ _ c.in-Ok-variants_inside.ensures.0 (fails_here _ _ _ c.in-Err-comma_at.ensures)))))))

pub returns-in-Err-closing_at : goal.returns-in-Err-closing_at
unfolding enumeration_at
returns-in-Err-closing_at c = fails_here _ _ _ (fails_later _ _ _ _ c.in-Ok.ensures (fails_later _ _ _ _ c.in-Ok-mark_at.ensures (fails_later _ _ _ _ c.in-Ok-path_at.ensures.0 (fails_later _ _ _ _ c.in-Ok-attributes_at.ensures.0 (fails_later _ _ _ _ c.in-Ok-mark_at-2.ensures (fails_later _ _ _ _ c.in-Ok-variants_inside.ensures.0 (fails_later _ _ _ _ c.in-Ok-comma_at.ensures (fails_here _ _ _ c.in-Err-closing_at.ensures))))))))

pub returns : goal.returns
unfolding enumeration_at
returns c =
    let e8 = closing_takes _ _ c.in-Ok-closing_at.ensures in
    let e7 = comma_takes _ _ c.in-Ok-comma_at.ensures ∙ ap (comma_before _) e8 in
    let e6 = variants_inside_take _ _ c.in-Ok-variants_inside.ensures.0 ∙ ap (list_before variant_before _) e7 in
    let e5 = mark_takes 123 _ _ c.in-Ok-mark_at-2.ensures ∙ ap (λ (r : List Piece). mark 123 ∷ r) e6 in
    let e4 = attributes_takes _ _ c.in-Ok-attributes_at.ensures.0 ∙ ap (attributes_before _) e5 in (
      reads_on _ _ _ _ (reads_on _ _ _ _ c.in-Ok.ensures (reads_on _ _ _ _ c.in-Ok-mark_at.ensures (reads_on _ _ _ _ c.in-Ok-path_at.ensures.0 (reads_on _ _ _ _ c.in-Ok-attributes_at.ensures.0 (reads_on _ _ _ _ c.in-Ok-mark_at-2.ensures (reads_on _ _ _ _ c.in-Ok-variants_inside.ensures.0 (reads_on _ _ _ _ c.in-Ok-comma_at.ensures (reads_on _ _ _ _ c.in-Ok-closing_at.ensures refl)))))))) refl,
      record {
        base = subst (PathCounted c.in-Ok-path_at.value.0) e4 c.in-Ok-path_at.ensures.1;
        attributes = subst (AttributesCounted c.in-Ok-attributes_at.value.0.items) e5 c.in-Ok-attributes_at.ensures.1;
        variants = subst (EachCounted VariantCounted variant_of (next_before variant_before) c.in-Ok-variants_inside.value.0.items) e7 c.in-Ok-variants_inside.ensures.1;
      },
    )
