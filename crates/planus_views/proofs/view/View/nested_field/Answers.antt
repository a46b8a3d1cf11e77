use Rattle.std.proofs.Common.{[], ap, refl, false}
use Rattle.planus_views.specs.Fields.{bytes_if}
use Rattle.planus_views.specs.Views.{view_table}
use Rattle.planus_views.proofs.ByteFields.{nested_holds, nested_at}
use Rattle.planus_views.proofs.view.View.nested_field.Goals as goal

pub bytes_field-requires : goal.bytes_field-requires
bytes_field-requires g c = ap (bytes_if false) c.requires.has

pub root_unchecked-requires : goal.root_unchecked-requires
root_unchecked-requires g c = λ k. (
  (refl, tt),
  nested_at _ g.K.VerifiedKind.schema g.V.Kind.VerifiedKind.index _ c.requires.same
      (nested_holds g.K.VerifiedKind.schema g.K.VerifiedKind.index c.args.slot
      g.V.Kind.VerifiedKind.index false (view_table c.args.self.now) c.in-Some.bytes
      c.args.self.now.verified c.requires.has (c.in-Some.ensures [] []).answer),
)

pub returns-in-Some : goal.returns-in-Some
returns-in-Some g c = (c.in-Some.bytes, c.in-Some.ensures, c.root_unchecked.ensures)
