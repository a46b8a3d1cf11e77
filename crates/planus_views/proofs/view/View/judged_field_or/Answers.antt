use Rattle.std.proofs.Math.Logic.{∥∥₁_elim}
use Rattle.std.proofs.Props.{props}
use Rattle.std.proofs.Common.{false}
use Rattle.planus_verify.specs.declared.schema.ValueKind.TheVariants as value
use Rattle.planus_views.proofs.Fields.{place_holds}
use Rattle.planus.specs.ReadPlain.{reads_plain}
use Rattle.planus_views.specs.Views.{view_table}
use Rattle.planus_views.proofs.Judged.{own_plain, judged, judged_or, absent_or}
use Rattle.planus_views.proofs.view.View.judged_field_or.Goals as goal

pub read-requires : goal.read-requires
read-requires g c =
    ∥∥₁_elim (place_holds g.K.VerifiedKind.schema g.K.VerifiedKind.index
    c.args.slot false (value.Plain g.T.Plain.SIZE) (view_table c.args.self.now) _ _ _
    c.args.self.now.verified c.requires c.in-Some.ensures.some) (Prim.hlevel props) (λ h. h.1.0.0)

pub returns-in-Some : goal.returns-in-Some
returns-in-Some g c = λ type_ method r located.
    let table = view_table c.args.self.now in
    let inside = ∥∥₁_elim (place_holds g.K.VerifiedKind.schema g.K.VerifiedKind.index
    c.args.slot false (value.Plain g.T.Plain.SIZE) table _ _ _
    c.args.self.now.verified c.requires c.in-Some.ensures.some) (Prim.hlevel props) (λ h. h.1.0.0) in
    judged_or g.T.Plain.shape c.args.default table c.args.slot type_ method c.read.result r
    (judged (reads_plain g.T.Plain.shape) table c.args.slot _ _ _ c.read.result
    c.in-Some.ensures.some
    (own_plain g.T.Plain.shape _ _ c.read.result inside c.read.ensures.answer)) located

pub returns-in-None : goal.returns-in-None
returns-in-None g c = λ type_ method r located.
    absent_or g.T.Plain.shape c.args.default (view_table c.args.self.now) c.args.slot type_ method r
    c.in-None.ensures.none located
