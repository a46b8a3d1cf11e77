use Rattle.std.proofs.Common.{◌∷◌, List, ap, subst, ◌∙◌}
use Rattle.planus_syntax.specs.Counting.{AttributesCounted, EachCounted, MemberCounted}
use Rattle.planus_syntax.proofs.Loops.{closing_takes, comma_takes, mark_takes, members_inside_take}
use Rattle.planus_syntax.specs.Values.{comma_before, list_before, member_before, member_of, next_before}
use Rattle.planus_syntax.specs.Tokens.{Piece, mark}
use Rattle.std.proofs.Common.{refl}
use Rattle.planus_syntax.specs.Reading.{union_at}
use Rattle.planus_syntax.proofs.Steps.{fails_here, fails_later, reads_on}
use Rattle.planus_syntax.proofs.parse.unions.union_at.Goals as goal

pub returns-in-Err : goal.returns-in-Err
unfolding union_at
returns-in-Err c = fails_here _ _ _ (fails_here _ _ _ c.in-Err.ensures)

pub returns-in-Err-attributes_at : goal.returns-in-Err-attributes_at
unfolding union_at
returns-in-Err-attributes_at c = fails_here _ _ _ (fails_later _ _ _ _ c.in-Ok.ensures (fails_here _ _ _ c.in-Err-attributes_at.ensures))

pub returns-in-Err-mark_at : goal.returns-in-Err-mark_at
unfolding union_at
returns-in-Err-mark_at c = fails_here _ _ _ (fails_later _ _ _ _ c.in-Ok.ensures (fails_later _ _ _ _ c.in-Ok-attributes_at.ensures.0 (fails_here _ _ _ c.in-Err-mark_at.ensures)))

pub returns-in-Err-members_inside : goal.returns-in-Err-members_inside
unfolding union_at
returns-in-Err-members_inside c = fails_here _ _ _ (fails_later _ _ _ _ c.in-Ok.ensures (fails_later _ _ _ _ c.in-Ok-attributes_at.ensures.0 (fails_later _ _ _ _ c.in-Ok-mark_at.ensures (fails_here _ _ _ c.in-Err-members_inside.ensures))))

pub returns-in-Err-comma_at : goal.returns-in-Err-comma_at
unfolding union_at
returns-in-Err-comma_at c = fails_here _ _ _ (fails_later _ _ _ _ c.in-Ok.ensures (fails_later _ _ _ _ c.in-Ok-attributes_at.ensures.0 (fails_later _ _ _ _ c.in-Ok-mark_at.ensures (fails_later _ _ _ _ c.in-Ok-members_inside.ensures.0 (fails_here _ _ _ c.in-Err-comma_at.ensures)))))

pub returns-in-Err-closing_at : goal.returns-in-Err-closing_at
unfolding union_at
returns-in-Err-closing_at c = fails_here _ _ _ (fails_later _ _ _ _ c.in-Ok.ensures (fails_later _ _ _ _ c.in-Ok-attributes_at.ensures.0 (fails_later _ _ _ _ c.in-Ok-mark_at.ensures (fails_later _ _ _ _ c.in-Ok-members_inside.ensures.0 (fails_later _ _ _ _ c.in-Ok-comma_at.ensures (fails_here _ _ _ c.in-Err-closing_at.ensures))))))

pub returns : goal.returns
unfolding union_at
returns c =
    let e8 = closing_takes _ _ c.in-Ok-closing_at.ensures in
    let e7 = comma_takes _ _ c.in-Ok-comma_at.ensures ∙ ap (comma_before _) e8 in
    let e6 = members_inside_take _ _ c.in-Ok-members_inside.ensures.0 ∙ ap (list_before member_before _) e7 in
    let e5 = mark_takes 123 _ _ c.in-Ok-mark_at.ensures ∙ ap (λ (r : List Piece). mark 123 ∷ r) e6 in (
      reads_on _ _ _ _ (reads_on _ _ _ _ c.in-Ok.ensures (reads_on _ _ _ _ c.in-Ok-attributes_at.ensures.0 (reads_on _ _ _ _ c.in-Ok-mark_at.ensures (reads_on _ _ _ _ c.in-Ok-members_inside.ensures.0 (reads_on _ _ _ _ c.in-Ok-comma_at.ensures (reads_on _ _ _ _ c.in-Ok-closing_at.ensures refl)))))) refl,
      (subst (AttributesCounted c.in-Ok-attributes_at.value.0.items) e5 c.in-Ok-attributes_at.ensures.1, subst (EachCounted MemberCounted member_of (next_before member_before) c.in-Ok-members_inside.value.0.items) e7 c.in-Ok-members_inside.ensures.1),
    )
