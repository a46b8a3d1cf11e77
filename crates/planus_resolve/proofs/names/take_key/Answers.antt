use Rattle.std.proofs.lemmas.Map.Text.{btree_map_updates_str}
use Rattle.std.specs.Prelude.{Some}
use Rattle.planus_resolve.proofs.IndexLemmas.{taken_more}
use Rattle.planus_resolve.proofs.names.take_key.Goals as goal

pub returns-in_ok-insert-in-None-clause-taken : goal.returns-in_ok-insert-in-None-clause-taken
returns-in_ok-insert-in-None-clause-taken c = λ list h new q.
    taken_more c.args.names.now c.insert.new.self list c.args.name.now q
    (btree_map_updates_str c.args.name.now c.args.names.now c.insert.new.self (Some 0) c.in_ok-insert-in-None.ensures.updates q) (h q)
