use Rattle.std.proofs.Common.{Ok, true}
use Rattle.planus.proofs.UnionAccessors.{required_vector_read}
use Rattle.planus_views.specs.CheckedVectors.{checked_unions}
use Rattle.planus_views.specs.Views.{view_table}
use Rattle.planus_views.proofs.UnionVectorFacts.{not_half, unions_hold, hold_at, unions_answered}
use Rattle.planus_views.proofs.UnionVectorFacts.{unions_not_absent}
use Rattle.planus_views.proofs.view.View.union_vector_required.Goals as goal

pub union_vector_slots-requires : goal.union_vector_slots-requires
union_vector_slots-requires g c =
    not_half g.K.VerifiedKind.schema g.K.VerifiedKind.index g.U.Kind.UnionKind.union c.args.slot
    true (view_table c.args.self.now) c.args.self.now.verified c.requires.has

pub from_buffer_unchecked-requires : goal.from_buffer_unchecked-requires
from_buffer_unchecked-requires g c =
    hold_at _ g.K.VerifiedKind.schema g.U.Kind.UnionKind.union (view_table c.args.self.now)
    c.args.slot _ _ _ _ c.requires.same c.object.ensures.bytes c.object.ensures.start
    c.in-Some.ensures.tags c.in-Some.ensures.references
    (unions_hold g.K.VerifiedKind.schema g.K.VerifiedKind.index g.U.Kind.UnionKind.union
    c.args.slot true (view_table c.args.self.now) c.args.self.now.verified c.requires.has
    c.in-Some.ensures.some)

pub unreachable-requires : goal.unreachable-requires
unreachable-requires g c =
    unions_not_absent g.K.VerifiedKind.schema g.K.VerifiedKind.index g.U.Kind.UnionKind.union
    c.args.slot (view_table c.args.self.now) c.args.self.now.verified c.requires.has
    c.in-None.ensures.none

pub returns : goal.returns
returns g c = λ type_ method.
    required_vector_read (view_table c.args.self.now) c.args.slot type_ method
    (Ok (checked_unions c.from_buffer_unchecked.result))
    (unions_answered (view_table c.args.self.now) c.args.slot _ _ _ _
    (checked_unions c.from_buffer_unchecked.result) c.in-Some.ensures.some c.object.ensures.bytes
    c.object.ensures.start c.in-Some.ensures.tags c.in-Some.ensures.references
    c.from_buffer_unchecked.ensures)
