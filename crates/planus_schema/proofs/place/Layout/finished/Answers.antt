use Rattle.planus_schema.proofs.place.Layout.finished.Goals as goal

pub returns-clause-size : goal.returns-clause-size
returns-clause-size c = c.next_multiple.ensures.next

pub returns-clause-is : goal.returns-clause-is
returns-clause-is c = c.next_multiple.ensures.is
