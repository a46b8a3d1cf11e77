use Rattle.std.proofs.Common.{subst}
use Rattle.planus_syntax.specs.Counting.{AttributeCounted, EachCounted}
use Rattle.planus_syntax.proofs.Loops.{mark_takes, next_attribute_takes}
use Rattle.planus_syntax.specs.Values.{attribute_before, attribute_of, next_before}
use Rattle.std.proofs.Common.{refl, ◌∙◌}
use Rattle.planus_syntax.specs.Reading.{attributes_at}
use Rattle.planus_syntax.proofs.Steps.{fails_here, fails_later, reads_on, first_way, fails_first}
use Rattle.planus_syntax.proofs.Loops.{attributes_looped}
use Rattle.planus_syntax.proofs.parse.attributes.attributes_at.Goals as goal

pub returns-in-Err : goal.returns-in-Err
unfolding attributes_at
returns-in-Err c = fails_first _ _ _ _ c.in-Some.ensures.0 (fails_later _ _ _ _ c.in-Some.ensures.1 (fails_here _ _ _ c.in-Err.ensures))

pub returns-in-Err-list_after : goal.returns-in-Err-list_after
unfolding attributes_at
returns-in-Err-list_after c = fails_first _ _ _ _ c.in-Some.ensures.0 (fails_later _ _ _ _ c.in-Some.ensures.1 (fails_later _ _ _ _ c.in-Ok.ensures.0 (fails_here _ _ _ c.in-Err-list_after.ensures)))

pub returns-in-Err-mark_at : goal.returns-in-Err-mark_at
unfolding attributes_at
returns-in-Err-mark_at c = fails_first _ _ _ _ c.in-Some.ensures.0 (fails_later _ _ _ _ c.in-Some.ensures.1 (fails_later _ _ _ _ c.in-Ok.ensures.0 (fails_later _ _ _ _ c.in-Ok-list_after.ensures.0 (fails_here _ _ _ c.in-Err-mark_at.ensures))))

pub returns-in-Ok-mark_at : goal.returns-in-Ok-mark_at
unfolding attributes_at
returns-in-Ok-mark_at c = (
  first_way _ _ _ c.in-Some.ensures.0 ∙ reads_on _ _ _ _ c.in-Some.ensures.1 (reads_on _ _ _ _ c.in-Ok.ensures.0 (reads_on _ _ _ _ c.in-Ok-list_after.ensures.0 (reads_on _ _ _ _ c.in-Ok-mark_at.ensures refl))),
  subst (EachCounted AttributeCounted attribute_of (next_before attribute_before) c.in-Ok-list_after.value.0.items) (mark_takes 41 _ _ c.in-Ok-mark_at.ensures) c.in-Ok-list_after.ensures.1,
)

pub list_after-requires : goal.list_after-requires
list_after-requires c = record { listed = (attributes_looped, next_attribute_takes); counted = c.in-Ok.ensures.1 }
