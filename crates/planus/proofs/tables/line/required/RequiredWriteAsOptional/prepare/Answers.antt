use Rattle.planus.proofs.tables.line.required.RequiredWriteAsOptional.prepare.Goals as goal

pub returns : goal.returns
returns g c = (λ none. none, c.in_ok-prepare.ensures)
