use Rattle.planus_write.specs.History.{no_history}
use Rattle.planus_write.proofs.PlacedParts.{nothing_written}
use Rattle.planus_write.proofs.builder.Builder.clear.Goals as goal

pub returns-clause-history : goal.returns-clause-history
returns-clause-history c = nothing_written c.clear.new.self _ _ c.clear.ensures.bytes c.clear.ensures.described (search) (search) (search)

pub invariant_of-self : goal.invariant_of-self
invariant_of-self c =
    (no_history, nothing_written c.clear.new.self _ _ c.clear.ensures.bytes c.clear.ensures.described (search) (search) (search))
