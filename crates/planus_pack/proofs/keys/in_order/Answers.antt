use Rattle.std.proofs.Common.{◌≡◌, ◌∷◌, ◌∙◌, ap, sym, map, rules}
use Rattle.std.specs.BTreeSet.{insert_key}
use Rattle.planus.specs.Steps.{bare_step}
use Rattle.planus_pack.specs.Keys.{in_order, keyed, keyed_cmp, keyed_view}
use Rattle.planus_pack.proofs.Ordered.{insert_view}
use Rattle.planus_pack.proofs.keys.in_order.Goals as goal

pub numbers-preserved : goal.numbers-preserved
numbers-preserved c =
    let declared = c.args.declared.now in
    let steps = map bare_step c.args.steps.now in
    let f = c.args.field.now in
    let first = c.in-Some.first.now in
    let after = c.in-Some.after.now in
    let before = map keyed_view c.numbers.set.keys in
    let split : c.numbers.rest.now ≡ first ∷ after =
    search (rules, c.in-Some.ensures.cases) in
    let own : keyed_view (c.in_ok-key.key, first) ≡ keyed declared steps f first =
    ap (λ key. (key, first)) c.in_ok-key.ensures in
    let placed : map keyed_view c.insert.new.self.keys ≡ insert_key keyed_cmp before (keyed declared steps f first) =
    ap (map keyed_view) c.in_ok-insert.ensures.keys ∙ insert_view (c.in_ok-key.key, first) c.numbers.set.keys
    ∙ ap (insert_key keyed_cmp before) own in
    ap (λ found. in_order declared steps f found after) placed
    ∙ ap (in_order declared steps f before) (sym split) ∙ c.numbers.invariant
