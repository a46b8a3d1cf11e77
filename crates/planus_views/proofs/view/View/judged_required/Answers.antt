use Rattle.std.proofs.Math.Logic.{∥∥₁_elim}
use Rattle.std.proofs.Props.{props}
use Rattle.planus_read.specs.Located.{Required}
use Rattle.planus_read.specs.Tables.{FieldAnswer, table_start}
use Rattle.std.proofs.Common.{true}
use Rattle.planus_verify.specs.declared.schema.ValueKind.TheVariants as value
use Rattle.planus_views.proofs.Fields.{place_holds, is_present}
use Rattle.planus.specs.Accessors.{plain_kind}
use Rattle.planus.specs.ReadPlain.{reads_plain}
use Rattle.planus.proofs.Accessors.{required_read}
use Rattle.planus.proofs.ReadPlain.{plain_read_back}
use Rattle.planus_views.specs.Views.{view_table}
use Rattle.planus_views.proofs.UnionAnswers.{located_as}
use Rattle.planus_views.proofs.Judged.{own_plain, judged, judged_present}
use Rattle.planus_views.proofs.view.View.judged_required.Goals as goal

pub read-requires : goal.read-requires
read-requires g c =
    ∥∥₁_elim (place_holds g.K.VerifiedKind.schema g.K.VerifiedKind.index
    c.args.slot true (value.Plain g.T.Plain.SIZE) (view_table c.args.self.now) _ _ _
    c.args.self.now.verified c.requires c.in-Some.ensures.some) (Prim.hlevel props) (λ h. h.1.0.0)

pub unreachable-requires : goal.unreachable-requires
unreachable-requires g c =
    is_present g.K.VerifiedKind.schema g.K.VerifiedKind.index c.args.slot
    (value.Plain g.T.Plain.SIZE) (view_table c.args.self.now) c.args.self.now.verified c.requires c.in-None.ensures.none

pub returns : goal.returns
returns g c = λ type_ method r located.
    let table = view_table c.args.self.now in
    let reads = reads_plain g.T.Plain.shape in
    let inside = ∥∥₁_elim (place_holds g.K.VerifiedKind.schema g.K.VerifiedKind.index
    c.args.slot true (value.Plain g.T.Plain.SIZE) table _ _ _
    c.args.self.now.verified c.requires c.in-Some.ensures.some) (Prim.hlevel props) (λ h. h.1.0.0) in
    required_read (plain_kind g.T.Plain.shape) (plain_read_back g.T.Plain.shape) table c.args.slot
    type_ method r
    (located_as (Required (FieldAnswer reads table c.args.slot)) c.read.result type_ method
    (table_start table) r
    (judged_present reads table c.args.slot c.read.result
    (judged reads table c.args.slot _ _ _ c.read.result c.in-Some.ensures.some
    (own_plain g.T.Plain.shape _ _ c.read.result inside c.read.ensures.answer))) located)
