use Rattle.std.proofs.Common.{refl, sym}
use Rattle.std.proofs.lemmas.Option.{slice_get-map}
use Rattle.planus_schema.specs.Layouts.{body_in}
use Rattle.planus_schema.proofs.measure.measure_at.Goals as goal

pub returns-in-Some : goal.returns-in-Some
returns-in-Some c =
    let e = slice_get-map body_in c.args.bodies.now c.args.index in
    let h = c.in-Some.ensures in
    rw (e, (sym h)) c.body_measure.ensures

pub returns-in-None : goal.returns-in-None
returns-in-None c =
    let e = slice_get-map body_in c.args.bodies.now c.args.index in
    let h = c.in-None.ensures in
    rw (e, (sym h)) refl
