use Rattle.std.proofs.Common.{refl}
use Rattle.planus_views.specs.verify.lemmas.Passed as passed
use Rattle.harbour.specs.Verified.{verified_schema}
use Rattle.harbour.proofs.verified.manifest.ManifestVerify.pass.Goals as goal

pub returns : goal.returns
returns c =
    passed.table verified_schema 4 c.args.depth _ c.args.table _ c.args.left _ _
    c.in_ok-fields.ensures.table c.in_ok-fields.ensures.depth c.in_ok-left.ensures
    (passed.field _ c.in_ok-left-2.ensures (passed.field _ c.in_ok-left-3.ensures
    (passed.field _ c.in_ok-left-4.ensures (passed.field _ c.in_ok-left-5.ensures
    (passed.field _ c.in_ok-left-6.ensures (passed.field _ c.in_ok-left-7.ensures
    (passed.field _ c.in_ok-left-8.ensures (passed.field _ c.in_ok-left-9.ensures
    (passed.field _ c.in_ok-left-10.ensures (passed.field _ c.in_ok-left-11.ensures
    (passed.field _ c.in_ok-left-12.ensures (passed.field _ c.in_ok-left-13.ensures
    (passed.field _ c.in_ok-left-14.ensures (passed.field _ c.in_ok-left-15.ensures
    (passed.field _ c.in_ok-left-16.ensures (passed.field _ c.in_ok-left-17.ensures
    (passed.field _ c.in_ok-left-18.ensures (passed.field _ c.in_ok-left-19.ensures
    (passed.field _ c.in_ok-left-20.ensures (passed.field _ c.in_ok-left-21.ensures
    (passed.field _ c.in_ok-left-22.ensures (passed.field _ c.in_ok-left-23.ensures
    (passed.field _ c.in_ok-left-24.ensures (passed.field _ c.in_ok-left-25.ensures
    (passed.field _ c.in_ok-left-26.ensures (passed.field _ c.in_ok-left-27.ensures
    (passed.field _ c.in_ok-left-28.ensures (passed.field _ c.in_ok-left-29.ensures
    (passed.field _ c.in_ok-left-30.ensures (passed.field _ c.in_ok-left-31.ensures
    (passed.field _ c.in_ok-left-32.ensures (passed.field _ c.in_ok-left-33.ensures
    (passed.field _ c.in_ok-left-34.ensures (passed.field _ c.in_ok-left-35.ensures
    (passed.field _ c.in_ok-left-36.ensures (passed.field _ c.in_ok-left-37.ensures
    (passed.field _ c.in_ok-left-38.ensures (passed.field _ c.in_ok-left-39.ensures
    (passed.field _ c.in_ok-left-40.ensures (passed.field _ c.in_ok-left-41.ensures
    (passed.field _ c.in_ok-left-42.ensures (passed.field _ c.in_ok-left-43.ensures
    refl))))))))))))))))))))))))))))))))))))))))))
