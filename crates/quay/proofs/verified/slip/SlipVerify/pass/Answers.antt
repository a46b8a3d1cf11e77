use Rattle.std.proofs.Common.{refl}
use Rattle.planus_views.specs.verify.lemmas.Passed as passed
use Rattle.quay.specs.Verified.{verified_schema}
use Rattle.quay.proofs.verified.slip.SlipVerify.pass.Goals as goal

pub returns : goal.returns
returns c =
    passed.table verified_schema 2 c.args.depth _ c.args.table _ c.args.left _ _
    c.in_ok-fields.ensures.table c.in_ok-fields.ensures.depth c.in_ok-left.ensures
    (passed.field _ c.in_ok-left-2.ensures refl)
