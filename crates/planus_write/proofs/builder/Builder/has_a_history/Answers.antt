use Rattle.planus_write.proofs.builder.Builder.has_a_history.Goals as goal

pub returns : goal.returns
returns c = rw (← c.self.view_is) c.self.invariant
