use Rattle.std.proofs.Common.{Ok, refl, subst, sym}
use Rattle.planus.specs.Views.{reads_as}
use Rattle.planus.proofs.Roots.{root_read}
use Rattle.planus.proofs.Accessors.{the_table}
use Rattle.planus_views.proofs.Fields.{root_passes}
use Rattle.planus_views.proofs.root.verify_root.Goals as goal

pub of_verified-requires : goal.of_verified-requires
of_verified-requires g c = λ k. (
  (refl, tt),
  root_passes g.V.Kind.VerifiedKind.schema g.V.Kind.VerifiedKind.index c.args.limits.depth
      c.args.limits.tables c.in-Some.ensures.passed.0 c.args.bytes.now c.in-Some.table
      c.in-Some.ensures.root c.in-Some.ensures.passed.1,
)

pub returns-in-Some-clause-root : goal.returns-in-Some-clause-root
returns-in-Some-clause-root g c = λ name.
    root_read name g.V.ViewOf.table c.args.bytes.now g.row.V-Kind.Denot (Ok c.of_verified.result)
    (subst (λ t. reads_as the_table c.args.bytes.now 0 0 (Ok t)) (sym c.of_verified.ensures)
    c.in-Some.ensures.root)
