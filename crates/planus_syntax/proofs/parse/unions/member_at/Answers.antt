use Rattle.std.proofs.Common.{ap, subst, ◌∙◌}
use Rattle.planus_syntax.specs.Counting.{IfAny, PathCounted}
use Rattle.planus_syntax.proofs.Loops.{number_takes, optional_takes, path_takes}
use Rattle.planus_syntax.specs.Reading.{number_at, path_at}
use Rattle.planus_syntax.specs.Values.{after_before, number_before, path_before}
use Rattle.std.proofs.Common.{refl}
use Rattle.planus_syntax.specs.Reading.{member_at}
use Rattle.planus_syntax.proofs.Steps.{fails_here, fails_later, reads_on}
use Rattle.planus_syntax.proofs.parse.unions.member_at.Goals as goal

pub returns-in-Err : goal.returns-in-Err
unfolding member_at
returns-in-Err c = fails_here _ _ _ c.in-Err.ensures

pub returns-in-Err-path_at : goal.returns-in-Err-path_at
unfolding member_at
returns-in-Err-path_at c = fails_later _ _ _ _ c.in-Ok.ensures (fails_here _ _ _ c.in-Err-path_at.ensures)

pub returns-in-Err-target_at : goal.returns-in-Err-target_at
unfolding member_at
returns-in-Err-target_at c = fails_later _ _ _ _ c.in-Ok.ensures (fails_later _ _ _ _ c.in-Ok-path_at.ensures.0 (fails_here _ _ _ c.in-Err-target_at.ensures))

pub returns-in-Err-number_after : goal.returns-in-Err-number_after
unfolding member_at
returns-in-Err-number_after c = fails_later _ _ _ _ c.in-Ok.ensures (fails_later _ _ _ _ c.in-Ok-path_at.ensures.0 (fails_later _ _ _ _ c.in-Ok-target_at.ensures.0 (fails_here _ _ _ c.in-Err-number_after.ensures)))

pub returns : goal.returns
unfolding member_at
returns c =
    let e3 = optional_takes 61 number_at number_before number_takes _ _ c.in-Ok-number_after.ensures in
    let e2 = optional_takes 58 path_at path_before path_takes _ _ c.in-Ok-target_at.ensures.0 ∙ ap (after_before 58 path_before _) e3 in (
      reads_on _ _ _ _ c.in-Ok.ensures (reads_on _ _ _ _ c.in-Ok-path_at.ensures.0 (reads_on _ _ _ _ c.in-Ok-target_at.ensures.0 (reads_on _ _ _ _ c.in-Ok-number_after.ensures refl))),
      (subst (PathCounted c.in-Ok-path_at.value.0) e2 c.in-Ok-path_at.ensures.1, subst (IfAny PathCounted c.in-Ok-target_at.value.0) e3 c.in-Ok-target_at.ensures.1),
    )
