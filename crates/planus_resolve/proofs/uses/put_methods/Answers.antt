use Rattle.std.proofs.Common.{◌++◌, ap, sym, ◌∙◌, map, append_assoc}
use Rattle.std.proofs.lemmas.List.{append-nil, drop_all}
use Rattle.planus_resolve.specs.Uses.{spot_of, event_of, methods_used}
use Rattle.planus_resolve.proofs.StructLemmas.{drop_next}
use Rattle.planus_resolve.proofs.uses.put_methods.Goals as goal

pub methods-preserved : goal.methods-preserved
methods-preserved c =
    let out = map event_of c.methods.out.items in
    let r = drop_next c.args.methods.now c.methods.method-index c.method-item.result c.methods-test.true c.method-item.is in
    rw c.in-Ok.ensures (append_assoc out _ _
    ∙ ap (λ ds. out ++ methods_used (spot_of c.args.spot) ds) (sym r) ∙ c.methods.invariant)

pub returns : goal.returns
returns c =
    let d = drop_all c.methods.method-index c.args.methods.now c.methods-test.false in
    sym (append-nil (map event_of c.methods.out.items)) ∙ rw d at c.methods.invariant
