use Rattle.std.proofs.Common.{refl, sym, subst, Ok}
use Rattle.std.proofs.Math.Logic.{∥∥₁_map}
use Rattle.planus.specs.Views.{reads_as}
use Rattle.planus.proofs.Accessors.{the_table}
use Rattle.planus_verify.specs.Schemas.{Shapes}
use Rattle.planus_verify.specs.Verified.{IsVerified}
use Rattle.planus_verify.specs.declared.schema.VariantKind.TheVariants as variant
use Rattle.planus_views.proofs.Fields.{table_reached}
use Rattle.planus_views.proofs.Merely.{table_had}
use Rattle.planus_views.proofs.UnionFacts.{member_holds}
use Rattle.planus_views.specs.Members.{member_tag, member_bytes, member_start, member_offset}
use Rattle.planus_views.proofs.union_of.Member.table.Goals as goal

pub from_buffer_unchecked-table-requires : goal.from_buffer_unchecked-table-requires
from_buffer_unchecked-table-requires g c =
    table_had _ _ (∥∥₁_map
    (member_holds g.O.UnionKind.schema g.O.UnionKind.union (member_tag c.args.self.now) c.args.tag
    (variant.Table g.V.Kind.VerifiedKind.index) (member_start c.args.self.now) (member_bytes c.args.self.now)
    (member_offset c.args.self.now)
    c.requires.tag c.requires.variant c.requires.verified) (λ h. h.1.0))

pub of_verified-requires : goal.of_verified-requires
of_verified-requires g c = λ k. (
  (refl, tt),
  subst (λ (s : Shapes). IsVerified s g.V.Kind.VerifiedKind.index c.from_buffer_unchecked-table.result) (sym c.requires.same)
      (∥∥₁_map
      (member_holds g.O.UnionKind.schema g.O.UnionKind.union (member_tag c.args.self.now) c.args.tag
      (variant.Table g.V.Kind.VerifiedKind.index) (member_start c.args.self.now) (member_bytes c.args.self.now)
      (member_offset c.args.self.now)
      c.requires.tag c.requires.variant c.requires.verified)
      (λ h. (
        h.0,
        table_reached g.O.UnionKind.schema h.0 g.V.Kind.VerifiedKind.index _ _ _
            c.from_buffer_unchecked-table.result c.from_buffer_unchecked-table.ensures h.1,
      ))),
)

pub returns : goal.returns
returns g c =
    subst (λ t. reads_as the_table (member_bytes c.args.self.now) (member_start c.args.self.now)
    (member_offset c.args.self.now) (Ok t)) (sym c.of_verified.ensures)
    c.from_buffer_unchecked-table.ensures
