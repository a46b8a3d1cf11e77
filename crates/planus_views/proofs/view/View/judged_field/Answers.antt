use Rattle.std.proofs.Common.{Ok, Err, None}
use Rattle.std.proofs.Math.Logic.{∥∥₁_elim}
use Rattle.std.proofs.Props.{props}
use Rattle.planus_read.specs.Tables.{FieldAnswer, table_start}
use Rattle.std.proofs.Common.{false}
use Rattle.planus_verify.specs.declared.schema.ValueKind.TheVariants as value
use Rattle.planus_views.proofs.Fields.{place_holds}
use Rattle.planus.specs.ReadPlain.{reads_plain}
use Rattle.planus.proofs.ReadPlain.{field_read}
use Rattle.planus_views.specs.Views.{view_table}
use Rattle.planus_views.specs.Members.{some_if}
use Rattle.planus_views.proofs.UnionAnswers.{located_as}
use Rattle.planus_views.proofs.Judged.{own_plain, judged}
use Rattle.planus_views.proofs.view.View.judged_field.Goals as goal

pub read-requires : goal.read-requires
read-requires g c =
    ∥∥₁_elim (place_holds g.K.VerifiedKind.schema g.K.VerifiedKind.index
    c.args.slot false (value.Plain g.T.Plain.SIZE) (view_table c.args.self.now) _ _ _
    c.args.self.now.verified c.requires c.in-Some.ensures.some) (Prim.hlevel props) (λ h. h.1.0.0)

pub returns-in-Ok : goal.returns-in-Ok
returns-in-Ok g c = λ type_ method r located.
    let table = view_table c.args.self.now in
    let reads = reads_plain g.T.Plain.shape in
    let inside = ∥∥₁_elim (place_holds g.K.VerifiedKind.schema g.K.VerifiedKind.index
    c.args.slot false (value.Plain g.T.Plain.SIZE) table _ _ _
    c.args.self.now.verified c.requires c.in-Some.ensures.some) (Prim.hlevel props) (λ h. h.1.0.0) in
    field_read g.T.Plain.shape table c.args.slot type_ method r
    (located_as (FieldAnswer reads table c.args.slot) (some_if (Ok c.in-Ok.value)) type_ method
    (table_start table) r
    (judged reads table c.args.slot _ _ _ (Ok c.in-Ok.value) c.in-Some.ensures.some
    (own_plain g.T.Plain.shape _ _ (Ok c.in-Ok.value) inside c.in-Ok.ensures.answer)) located)

pub returns-in-Err : goal.returns-in-Err
returns-in-Err g c = λ type_ method r located.
    let table = view_table c.args.self.now in
    let reads = reads_plain g.T.Plain.shape in
    let inside = ∥∥₁_elim (place_holds g.K.VerifiedKind.schema g.K.VerifiedKind.index
    c.args.slot false (value.Plain g.T.Plain.SIZE) table _ _ _
    c.args.self.now.verified c.requires c.in-Some.ensures.some) (Prim.hlevel props) (λ h. h.1.0.0) in
    field_read g.T.Plain.shape table c.args.slot type_ method r
    (located_as (FieldAnswer reads table c.args.slot) (some_if (Err c.in-Err.kind)) type_ method
    (table_start table) r
    (judged reads table c.args.slot _ _ _ (Err c.in-Err.kind) c.in-Some.ensures.some
    (own_plain g.T.Plain.shape _ _ (Err c.in-Err.kind) inside c.in-Err.ensures.answer)) located)

pub returns-in-None : goal.returns-in-None
returns-in-None g c = λ type_ method r located.
    field_read g.T.Plain.shape (view_table c.args.self.now) c.args.slot type_ method r
    (located_as (FieldAnswer (reads_plain g.T.Plain.shape) (view_table c.args.self.now) c.args.slot)
    (Ok None) type_ method (table_start (view_table c.args.self.now)) r c.in-None.ensures.none located)
