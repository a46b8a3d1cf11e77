use Rattle.std.proofs.Common.{◌≡◌, sym, subst, map, length}
use Rattle.std.specs.Prelude.{Some}
use Rattle.planus_json_syntax.specs.Values.{json_view}
use Rattle.planus_pack.specs.Packs.{miscounted}
use Rattle.planus_pack.proofs.packing.values_in.Goals as goal

pub returns-in-Some-clause-fails : goal.returns-in-Some-clause-fails
returns-in-Some-clause-fails c = λ way same. record {
  values = map json_view c.in-Ok.values.items;
  spelled = c.in-Ok.ensures.found;
  there =
      let found : Some c.in-Some.at ≡ miscounted way (length c.args.text.now) (map json_view c.deref.result.now) =
      c.in-Some.ensures way same in
      subst (λ js. miscounted way (length c.args.text.now) (map json_view js) ≡ Some c.in-Some.at) c.deref.ensures.value (sym found);
}
