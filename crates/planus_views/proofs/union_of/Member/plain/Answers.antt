use Rattle.std.proofs.Math.Logic.{∥∥₁_map}
use Rattle.planus_verify.specs.declared.schema.VariantKind.TheVariants as variant
use Rattle.planus_views.proofs.Merely.{struct_had}
use Rattle.planus_views.proofs.UnionFacts.{member_holds}
use Rattle.planus_views.specs.Members.{member_tag, member_bytes, member_start, member_offset}
use Rattle.planus_views.proofs.union_of.Member.plain.Goals as goal

pub from_buffer_unchecked-requires : goal.from_buffer_unchecked-requires
from_buffer_unchecked-requires g c =
    struct_had _ _ _ (∥∥₁_map
    (member_holds g.O.UnionKind.schema g.O.UnionKind.union (member_tag c.args.self.now) c.args.tag
    (variant.Struct g.T.Plain.SIZE) (member_start c.args.self.now) (member_bytes c.args.self.now)
    (member_offset c.args.self.now) c.requires.tag c.requires.variant c.requires.verified)
    (λ h. h.1))
