use Rattle.std.proofs.Common.{refl, sym, ap, subst, ◌∙◌, length}
use Rattle.std.proofs.Math.ListN.{length-map}
use Rattle.planus_syntax.specs.Tokens.{pieces_of}
use Rattle.planus_syntax.specs.Reading.{Fails, declaration_at, item_at}
use Rattle.planus_syntax.proofs.Loops.{item_takes, word_takes}
use Rattle.planus_syntax.proofs.Steps.{fails_here, fails_later, reads_on}
use Rattle.planus_syntax.proofs.parse.DeclarationsItems.item_at.Goals as goal

pub returns-in-Err : goal.returns-in-Err
unfolding declaration_at
returns-in-Err c = fails_here _ _ _ c.in-Err.ensures

pub returns-in-Err-word_at : goal.returns-in-Err-word_at
unfolding declaration_at
returns-in-Err-word_at c = fails_later _ _ _ _ c.in-Ok.ensures (fails_here _ _ _ c.in-Err-word_at.ensures)

pub returns-in-Err-item_at : goal.returns-in-Err-item_at
unfolding declaration_at
returns-in-Err-item_at c =
    let start = c.in-Ok.value.1.now in
    let rest = pieces_of c.in-Ok-word_at.value.1.now in
    let same = ap (λ key. item_at key (length start) rest) c.deref.ensures.value
    ∙ ap (λ left. item_at c.in-Ok-word_at.value.0.items left rest) (sym (length-map start _)) in
    fails_later _ _ _ _ c.in-Ok.ensures (fails_later _ _ _ _ c.in-Ok-word_at.ensures
    (fails_here _ _ _ (subst (Fails c.in-Err-item_at.error) same c.in-Err-item_at.ensures)))

pub returns : goal.returns
unfolding declaration_at
returns c =
    let start = c.in-Ok.value.1.now in
    let rest = pieces_of c.in-Ok-word_at.value.1.now in
    let same = ap (λ key. item_at key (length start) rest) c.deref.ensures.value
    ∙ ap (λ left. item_at c.in-Ok-word_at.value.0.items left rest) (sym (length-map start _)) in
    let read = sym same ∙ c.in-Ok-item_at.ensures.0 in (
      reads_on _ _ _ _ c.in-Ok.ensures (reads_on _ _ _ _ c.in-Ok-word_at.ensures
          (reads_on _ _ _ _ read refl)),
      (
        sym (length-map start _) ∙ ap length (word_takes _ _ c.in-Ok-word_at.ensures ∙ item_takes _ _ _ _ read),
        c.in-Ok-item_at.ensures.1,
      ),
    )
