use Rattle.std.proofs.Common.{Ok, Some, None, refl}
use Rattle.std.proofs.Math.Logic.{∥∥₁_map}
use Rattle.planus.specs.Accessors.{texts_kind}
use Rattle.planus.specs.ReadVectors.{reads_vector}
use Rattle.planus.proofs.Accessors.{field_read, texts_law}
use Rattle.std.proofs.Common.{false}
use Rattle.planus_verify.specs.declared.schema.ValueKind.TheVariants as value
use Rattle.planus_views.proofs.Fields.{place_holds, faults_of, each_text, field_answered}
use Rattle.planus_read.specs.Slices.{slice_start}
use Rattle.planus_verify.specs.Verified.{Verified}
use Rattle.planus_views.specs.Views.{view_table}
use Rattle.planus_views.proofs.view.View.text_vector.Goals as goal

pub texts_unchecked-requires : goal.texts_unchecked-requires
texts_unchecked-requires g c =
    ∥∥₁_map (place_holds g.K.VerifiedKind.schema g.K.VerifiedKind.index
    c.args.slot false value.Texts (view_table c.args.self.now) _ _ _
    c.args.self.now.verified c.requires c.in-Some.ensures.some)
    (λ h. each_text (Verified g.K.VerifiedKind.schema h.0)
    (faults_of g.K.VerifiedKind.index (view_table c.args.self.now) c.args.slot) _ (slice_start c.in-Some.buffer)
    _ h.1)

pub returns-in-Some : goal.returns-in-Some
returns-in-Some g c = λ type_ method.
    field_read texts_kind (texts_law _ _ refl) (view_table c.args.self.now) c.args.slot type_ method
    (Ok (Some c.texts_unchecked.result.references))
    (field_answered (reads_vector _ _) (view_table c.args.self.now) c.args.slot _ _ _ c.texts_unchecked.result.references
    c.in-Some.ensures.some c.texts_unchecked.ensures)

pub returns-in-None : goal.returns-in-None
returns-in-None g c = λ type_ method.
    field_read texts_kind (texts_law _ _ refl) (view_table c.args.self.now) c.args.slot type_ method
    (Ok None) c.in-None.ensures.none
