use Rattle.planus_codegen.proofs.NameLemmas.{as_many_in_each}
use Rattle.planus_codegen.proofs.names.names_of.Goals as goal

pub returns-clause-counts : goal.returns-clause-counts
returns-clause-counts c = as_many_in_each c.in_ok-members.members.items c.args.declared.now c.in_ok-members.ensures
