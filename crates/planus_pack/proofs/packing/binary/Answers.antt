use Rattle.std.proofs.Common.{refl, map, subst}
use Rattle.std.specs.Prelude.{IfErr}
use Rattle.planus_write.specs.View.{settings_of}
use Rattle.planus_json_syntax.specs.Values.{json_view}
use Rattle.planus_pack.specs.Packs as spec
use Rattle.planus_pack.proofs.Packed.{no_values, any_unpacked}
use Rattle.planus_pack.proofs.packing.binary.Goals as goal

pub returns-in-Err-clause-fails : goal.returns-in-Err-clause-fails
returns-in-Err-clause-fails c =
    let way = spec.way (settings_of c.args.caches) c.args.options c.args.schema.now c.args.root c.args.id c.args.sized in
    no_values way c.args.text.now c.in-Err.error (c.in-Err.ensures.fails way refl)

pub returns-clause-fails : goal.returns-clause-fails
returns-clause-fails c =
    let way = spec.way (settings_of c.args.caches) c.args.options c.args.schema.now c.args.root c.args.id c.args.sized in
    any_unpacked way c.args.text.now (map json_view c.in-Ok.value.items) c.each_packed.result c.in-Ok.ensures.spelled
    (c.in-Ok.ensures.counted way refl)
    (subst (λ js. IfErr c.each_packed.result (spec.FailsAny way (map json_view js))) c.deref.ensures.value c.each_packed.ensures.fails)
