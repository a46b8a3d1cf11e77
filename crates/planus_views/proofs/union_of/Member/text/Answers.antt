use Rattle.std.proofs.Math.Logic.{∥∥₁_map}
use Rattle.planus_verify.specs.declared.schema.VariantKind.TheVariants as variant
use Rattle.planus_views.proofs.Merely.{text_had}
use Rattle.planus_views.proofs.UnionFacts.{member_holds}
use Rattle.planus_views.specs.Members.{member_tag, member_bytes, member_start, member_offset}
use Rattle.planus_views.proofs.union_of.Member.text.Goals as goal

pub text_unchecked-requires : goal.text_unchecked-requires
text_unchecked-requires g c =
    text_had _ _ (∥∥₁_map
    (member_holds g.O.UnionKind.schema g.O.UnionKind.union (member_tag c.args.self.now) c.args.tag
    variant.Text (member_start c.args.self.now) (member_bytes c.args.self.now)
    (member_offset c.args.self.now) c.requires.tag c.requires.variant c.requires.verified)
    (λ h. h.1))
