use Rattle.std.proofs.Common.{rules, ◌+◌, refl, ap, sym, subst, ◌∙◌, drop, map, take}
use Rattle.std.proofs.lemmas.List.{drop_all}
use Rattle.planus_syntax.specs.declared.value.Method.{Method}
use Rattle.planus_resolve.specs.inner.Index.{IsTaken}
use Rattle.planus_resolve.specs.inner.Scopes.{scope_heads, scope_space}
use Rattle.planus_resolve.specs.WrongServices.{wrong_methods}
use Rattle.planus_resolve.proofs.StructLemmas.{drop_next, map_next}
use Rattle.planus_resolve.proofs.FaultLemmas.{next_is, first_stops}
use Rattle.planus_resolve.proofs.checks.check_methods.Goals as goal

pub methods-init : goal.methods-init
methods-init c = record { taken = search rules; wrong = refl }

pub methods-preserved : goal.methods-preserved
methods-preserved c =
    let i = c.methods.invariant in
    let names = map (λ (m : Method). m.name.items) (take c.methods.method-index c.args.methods.now) in
    let r = drop_next c.args.methods.now c.methods.method-index c.method-item.result c.methods-test.true c.method-item.is in
    let t = map_next (λ (m : Method). m.name.items) c.args.methods.now c.methods.method-index c.method-item.result c.methods-test.true c.method-item.is in
    record {
      taken = subst (IsTaken c.check_method.new.names) (sym t) (c.in-Ok.ensures.taken names i.taken);
      wrong = ap (λ ns. wrong_methods (scope_heads c.args.scope.now) (scope_space c.args.scope.now) c.args.known.now ns (drop (c.methods.method-index + 1) c.args.methods.now)) t
          ∙ next_is (wrong_methods (scope_heads c.args.scope.now) (scope_space c.args.scope.now) c.args.known.now names) _ _ _ c.method-item.result _ _ r refl i.wrong (c.in-Ok.ensures.wrong names i.taken);
    }

pub returns-in-Err : goal.returns-in-Err
returns-in-Err c =
    let i = c.methods.invariant in
    let names = map (λ (m : Method). m.name.items) (take c.methods.method-index c.args.methods.now) in
    let r = drop_next c.args.methods.now c.methods.method-index c.method-item.result c.methods-test.true c.method-item.is in
    first_stops (wrong_methods (scope_heads c.args.scope.now) (scope_space c.args.scope.now) c.args.known.now names) _ _ _ c.method-item.result _ _ _ r refl i.wrong (c.in-Err.ensures.wrong names i.taken)

pub returns : goal.returns
returns c =
    let d = drop_all c.methods.method-index c.args.methods.now c.methods-test.false in
    sym (rw d at c.methods.invariant.wrong)
