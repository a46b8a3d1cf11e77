use Rattle.std.proofs.Common.{◌≡◌, ◌∷◌, sym, subst, map, rules}
use Rattle.planus_json_syntax.specs.Values.{json_view}
use Rattle.planus_pack.specs.Packs as spec
use Rattle.planus_pack.proofs.Packed.{later_fails}
use Rattle.planus_pack.proofs.packing.each_packed.Goals as goal

pub values-preserved : goal.values-preserved
values-preserved c =
    let way = spec.way_of c.args.way.now in
    let first = c.in-Some.first.now in
    let after = c.in-Some.after.now in
    let own = c.in-Ok.value.items in
    let before = c.values.bytes.items in
    let split : c.values.rest.now ≡ first ∷ after =
    search (rules, c.in-Some.ensures.cases) in
    record {
      packed = λ bytes h. c.values.invariant.packed bytes
          (subst (λ js. spec.PacksAfter way before (map json_view js) bytes) (sym split) (
            own,
            c.in-Ok.ensures.packed,
            subst (λ b. spec.PacksAfter way b (map json_view after) bytes) c.in_ok-bytes.ensures h,
          ));
      fails = λ error h. c.values.invariant.fails error
          (subst (λ js. spec.FailsAny way (map json_view js) error) (sym split)
          (later_fails way (json_view first) own (map json_view after) error c.in-Ok.ensures.packed h));
    }
