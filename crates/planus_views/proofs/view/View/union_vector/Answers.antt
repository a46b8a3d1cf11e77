use Rattle.std.proofs.Common.{Ok, Some, None, false}
use Rattle.planus.proofs.UnionAccessors.{vector_read}
use Rattle.planus_views.specs.CheckedVectors.{checked_unions}
use Rattle.planus_views.specs.Views.{view_table}
use Rattle.planus_views.proofs.UnionVectorFacts.{not_half, unions_hold, hold_at, unions_answered}
use Rattle.planus_views.proofs.view.View.union_vector.Goals as goal

pub union_vector_slots-requires : goal.union_vector_slots-requires
union_vector_slots-requires g c =
    not_half g.K.VerifiedKind.schema g.K.VerifiedKind.index g.U.Kind.UnionKind.union c.args.slot
    false (view_table c.args.self.now) c.args.self.now.verified c.requires.has

pub from_buffer_unchecked-requires : goal.from_buffer_unchecked-requires
from_buffer_unchecked-requires g c =
    hold_at _ g.K.VerifiedKind.schema g.U.Kind.UnionKind.union (view_table c.args.self.now)
    c.args.slot _ _ _ _ c.requires.same c.object.ensures.bytes c.object.ensures.start
    c.in-Some.ensures.tags c.in-Some.ensures.references
    (unions_hold g.K.VerifiedKind.schema g.K.VerifiedKind.index g.U.Kind.UnionKind.union
    c.args.slot false (view_table c.args.self.now) c.args.self.now.verified c.requires.has
    c.in-Some.ensures.some)

pub returns-in-Some : goal.returns-in-Some
returns-in-Some g c = λ type_ method.
    vector_read (view_table c.args.self.now) c.args.slot type_ method
    (Ok (Some (checked_unions c.from_buffer_unchecked.result)))
    (unions_answered (view_table c.args.self.now) c.args.slot _ _ _ _
    (checked_unions c.from_buffer_unchecked.result) c.in-Some.ensures.some c.object.ensures.bytes
    c.object.ensures.start c.in-Some.ensures.tags c.in-Some.ensures.references
    c.from_buffer_unchecked.ensures)

pub returns-in-None : goal.returns-in-None
returns-in-None g c = λ type_ method.
    vector_read (view_table c.args.self.now) c.args.slot type_ method (Ok None)
    c.in-None.ensures.none
