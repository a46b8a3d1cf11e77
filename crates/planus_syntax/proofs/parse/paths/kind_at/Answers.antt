use Rattle.planus_syntax.specs.Counting.{PathCounted}
use Rattle.planus_syntax.proofs.Loops.{mark_takes, number_takes, optional_takes}
use Rattle.std.proofs.Common.{Ok, refl, sym, ap, subst, ◌∙◌}
use Rattle.planus_syntax.specs.Reading.{kind_at, number_at}
use Rattle.planus_syntax.specs.Tokens.{pieces_of}
use Rattle.planus_syntax.specs.Values.{KindV, after_before, number_before, digits_of}
use Rattle.planus_syntax.proofs.Steps.{fails_here, fails_later, reads_on, first_way, other_way, fails_first, fails_other}
use Rattle.planus_syntax.proofs.parse.paths.kind_at.Goals as goal

pub returns-in-Err : goal.returns-in-Err
unfolding kind_at
returns-in-Err c = fails_first _ _ _ _ c.in-Some.ensures.0 (fails_later _ _ _ _ c.in-Some.ensures.1 (fails_here _ _ _ c.in-Err.ensures))

pub returns-in-Err-number_after : goal.returns-in-Err-number_after
unfolding kind_at
returns-in-Err-number_after c = fails_first _ _ _ _ c.in-Some.ensures.0 (fails_later _ _ _ _ c.in-Some.ensures.1 (fails_later _ _ _ _ c.in-Ok.ensures.0 (fails_here _ _ _ c.in-Err-number_after.ensures)))

pub returns-in-Err-mark_at : goal.returns-in-Err-mark_at
unfolding kind_at
returns-in-Err-mark_at c = fails_first _ _ _ _ c.in-Some.ensures.0 (fails_later _ _ _ _ c.in-Some.ensures.1 (fails_later _ _ _ _ c.in-Ok.ensures.0 (fails_later _ _ _ _ c.in-Ok-number_after.ensures (fails_here _ _ _ c.in-Err-mark_at.ensures))))

pub returns-in-Ok-mark_at : goal.returns-in-Ok-mark_at
unfolding kind_at
returns-in-Ok-mark_at c =
    let digits = digits_of c.in-Ok-number_after.value.0 in
    let e1 = mark_takes 93 _ _ c.in-Ok-mark_at.ensures in
    let e0 = optional_takes 58 number_at number_before number_takes _ _ c.in-Ok-number_after.ensures in (
      first_way _ _ _ c.in-Some.ensures.0 ∙ reads_on _ _ _ _ c.in-Some.ensures.1 (reads_on _ _ _ _ c.in-Ok.ensures.0 (reads_on _ _ _ _ c.in-Ok-number_after.ensures (reads_on _ _ _ _ c.in-Ok-mark_at.ensures
          (ap (λ (k : KindV). Ok (k, pieces_of c.in-Ok-mark_at.value.now)) (sym c.kind_in_brackets.ensures.value))))),
      c.kind_in_brackets.ensures.counted _ (subst (PathCounted c.in-Ok.value.0) (e0 ∙ ap (after_before 58 number_before digits) e1) c.in-Ok.ensures.1),
    )

pub returns-in-Err-path_at : goal.returns-in-Err-path_at
unfolding kind_at
returns-in-Err-path_at c = fails_other _ _ _ _ c.in-None.ensures (fails_here _ _ _ c.in-Err-path_at.ensures)

pub returns-in-Ok-path_at : goal.returns-in-Ok-path_at
unfolding kind_at
returns-in-Ok-path_at c = (
  other_way _ _ _ c.in-None.ensures ∙ reads_on _ _ _ _ c.in-Ok-path_at.ensures.0 refl,
  c.in-Ok-path_at.ensures.1,
)
