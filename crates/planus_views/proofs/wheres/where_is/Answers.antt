use Rattle.std.proofs.Common.{subst}
use Rattle.planus_views.specs.Names.{names_of}
use Rattle.planus_views.specs.Wheres.{IsWhereAt}
use Rattle.planus_views.proofs.wheres.where_is.Goals as goal

pub returns : goal.returns
returns g c = record {
  there = subst
      (λ s. IsWhereAt g.K.VerifiedKind.schema (names_of c.args.names.now) g.K.VerifiedKind.index
      c.args.limits s c.args.bytes.now c.where_at.result)
      c.sought_named-sought.ensures c.where_at.ensures;
}
