use Rattle.std.proofs.Common.{◌∷◌, List, ap, refl, subst, ◌∙◌}
use Rattle.planus_syntax.specs.Tokens.{Piece, mark}
use Rattle.planus_syntax.specs.Counting.{AttributesCounted, EachCounted, MethodCounted}
use Rattle.planus_syntax.specs.Values.{each_before, method_before, method_of}
use Rattle.planus_syntax.specs.Reading.{inside, method_at, service_at}
use Rattle.planus_syntax.proofs.Many.{list_takes}
use Rattle.planus_syntax.proofs.Steps.{fails_here, fails_later, reads_on}
use Rattle.planus_syntax.proofs.Loops.{closing_takes, mark_takes, methods_looped, method_takes}
use Rattle.planus_syntax.proofs.parse.services.service_at.Goals as goal

pub returns-in-Err : goal.returns-in-Err
unfolding service_at
returns-in-Err c = fails_here _ _ _ (fails_here _ _ _ c.in-Err.ensures)

pub returns-in-Err-attributes_at : goal.returns-in-Err-attributes_at
unfolding service_at
returns-in-Err-attributes_at c = fails_here _ _ _ (fails_later _ _ _ _ c.in-Ok.ensures (fails_here _ _ _ c.in-Err-attributes_at.ensures))

pub returns-in-Err-mark_at : goal.returns-in-Err-mark_at
unfolding service_at
returns-in-Err-mark_at c = fails_here _ _ _ (fails_later _ _ _ _ c.in-Ok.ensures (fails_later _ _ _ _ c.in-Ok-attributes_at.ensures.0 (fails_here _ _ _ c.in-Err-mark_at.ensures)))

pub returns-in-Err-list_of : goal.returns-in-Err-list_of
unfolding service_at
returns-in-Err-list_of c = fails_here _ _ _ (fails_later _ _ _ _ c.in-Ok.ensures (fails_later _ _ _ _ c.in-Ok-attributes_at.ensures.0 (fails_later _ _ _ _ c.in-Ok-mark_at.ensures (fails_here _ _ _ c.in-Err-list_of.ensures.reads))))

pub returns-in-Err-closing_at : goal.returns-in-Err-closing_at
unfolding service_at
returns-in-Err-closing_at c = fails_here _ _ _ (fails_later _ _ _ _ c.in-Ok.ensures (fails_later _ _ _ _ c.in-Ok-attributes_at.ensures.0 (fails_later _ _ _ _ c.in-Ok-mark_at.ensures (fails_later _ _ _ _ c.in-Ok-list_of.ensures.reads.0 (fails_here _ _ _ c.in-Err-closing_at.ensures)))))

pub returns : goal.returns
unfolding service_at
returns c =
    let e5 = closing_takes _ _ c.in-Ok-closing_at.ensures in
    let e4 = (list_takes inside method_at method_before methods_looped method_takes _ _ c.in-Ok-list_of.ensures.reads.0).0 ∙ ap (each_before method_before _) e5 in
    let e3 = mark_takes 123 _ _ c.in-Ok-mark_at.ensures ∙ ap (λ (r : List Piece). mark 123 ∷ r) e4 in (
      reads_on _ _ _ _ (reads_on _ _ _ _ c.in-Ok.ensures (reads_on _ _ _ _ c.in-Ok-attributes_at.ensures.0 (reads_on _ _ _ _ c.in-Ok-mark_at.ensures (reads_on _ _ _ _ c.in-Ok-list_of.ensures.reads.0 (reads_on _ _ _ _ c.in-Ok-closing_at.ensures refl))))) refl,
      (
        subst (AttributesCounted c.in-Ok-attributes_at.value.0.items) e3 c.in-Ok-attributes_at.ensures.1,
        subst (EachCounted MethodCounted method_of method_before c.in-Ok-list_of.value.0.items) e5 c.in-Ok-list_of.ensures.reads.1,
      ),
    )

pub list_of-requires : goal.list_of-requires
list_of-requires c = (methods_looped, method_takes)
