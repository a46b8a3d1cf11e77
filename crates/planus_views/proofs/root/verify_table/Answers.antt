use Rattle.std.proofs.Common.{refl}
use Rattle.planus_read.specs.Tables.{table_object, table_slots, table_start}
use Rattle.planus_verify.proofs.Outcomes.{walks_pass}
use Rattle.planus_views.proofs.root.verify_table.Goals as goal

pub of_verified-requires : goal.of_verified-requires
of_verified-requires g c = λ k. (
  (refl, tt),
  ∣ (
    c.args.limits.depth,
    walks_pass g.V.Kind.VerifiedKind.schema c.args.limits.depth g.V.Kind.VerifiedKind.index
        (table_object c.args.table) (table_slots c.args.table) (table_start c.args.table)
        c.args.limits.tables c.in-Ok.ensures.passed.0 c.in-Ok.ensures.passed.1,
  ) ∣₁,
)
