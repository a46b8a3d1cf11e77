use Rattle.planus_write.specs.History.{no_history}
use Rattle.planus_write.proofs.PlacedParts.{nothing_written}
use Rattle.planus_write.proofs.builder.Builder.with_caches.Goals as goal

pub returns-clause-history : goal.returns-clause-history
returns-clause-history c =
    nothing_written c.in_ok-with_capacity.field-0 _ _ c.in_ok-with_capacity.ensures.bytes c.in_ok-with_capacity.ensures.described c.in_ok-new.ensures.empty c.in_ok-new-2.ensures.empty c.in_ok-new-3.ensures.empty

pub invariant_of-result : goal.invariant_of-result
invariant_of-result c =
    (no_history, nothing_written c.in_ok-with_capacity.field-0 _ _ c.in_ok-with_capacity.ensures.bytes c.in_ok-with_capacity.ensures.described c.in_ok-new.ensures.empty c.in_ok-new-2.ensures.empty c.in_ok-new-3.ensures.empty)
