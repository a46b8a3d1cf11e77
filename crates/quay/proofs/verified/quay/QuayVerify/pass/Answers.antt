use Rattle.std.proofs.Common.{refl}
use Rattle.planus_views.specs.verify.lemmas.Passed as passed
use Rattle.quay.specs.Verified.{verified_schema}
use Rattle.quay.proofs.verified.quay.QuayVerify.pass.Goals as goal

pub returns : goal.returns
returns c =
    passed.table verified_schema 3 c.args.depth _ c.args.table _ c.args.left _ _
    c.in_ok-fields.ensures.table c.in_ok-fields.ensures.depth c.in_ok-left.ensures
    (passed.field _ c.in_ok-left-2.ensures (passed.field _ c.in_ok-left-3.ensures
    (passed.field _ c.in_ok-left-4.ensures (passed.field _ c.in_ok-left-5.ensures
    (passed.field _ c.in_ok-left-6.ensures (passed.field _ c.in_ok-left-7.ensures
    (passed.field _ c.in_ok-left-8.ensures (passed.field _ c.in_ok-left-9.ensures
    (passed.field _ c.in_ok-left-10.ensures refl)))))))))
