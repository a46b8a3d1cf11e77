use Rattle.std.proofs.Common.{subst}
use Rattle.planus_syntax.specs.Counting.{LabelCounted}
use Rattle.planus_syntax.proofs.Loops.{literal_takes, optional_takes}
use Rattle.planus_syntax.specs.Reading.{literal_at}
use Rattle.planus_syntax.specs.Values.{literal_before}
use Rattle.std.proofs.Common.{refl}
use Rattle.planus_syntax.specs.Reading.{attribute_at}
use Rattle.planus_syntax.proofs.Steps.{fails_here, fails_later, reads_on}
use Rattle.planus_syntax.proofs.parse.attributes.attribute_at.Goals as goal

pub returns-in-Err : goal.returns-in-Err
unfolding attribute_at
returns-in-Err c = fails_here _ _ _ c.in-Err.ensures

pub returns-in-Err-literal_after : goal.returns-in-Err-literal_after
unfolding attribute_at
returns-in-Err-literal_after c = fails_later _ _ _ _ c.in-Ok.ensures.0 (fails_here _ _ _ c.in-Err-literal_after.ensures)

pub returns : goal.returns
unfolding attribute_at
returns c =
    let e = optional_takes 58 literal_at literal_before literal_takes _ _ c.in-Ok-literal_after.ensures.0 in (
      reads_on _ _ _ _ c.in-Ok.ensures.0 (reads_on _ _ _ _ c.in-Ok-literal_after.ensures.0 refl),
      (subst (LabelCounted c.in-Ok.value.0) e c.in-Ok.ensures.1, c.in-Ok-literal_after.ensures.1),
    )
