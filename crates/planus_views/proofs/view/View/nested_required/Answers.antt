use Rattle.std.proofs.Common.{[], ap, refl, true}
use Rattle.planus_views.specs.Fields.{bytes_if}
use Rattle.planus_views.specs.Views.{view_table}
use Rattle.planus_views.proofs.ByteFields.{nested_holds, nested_at}
use Rattle.planus_views.proofs.view.View.nested_required.Goals as goal

pub bytes_required-requires : goal.bytes_required-requires
bytes_required-requires g c = ap (bytes_if true) c.requires.has

pub root_unchecked-requires : goal.root_unchecked-requires
root_unchecked-requires g c = λ k. (
  (refl, tt),
  nested_at _ g.K.VerifiedKind.schema g.V.Kind.VerifiedKind.index _ c.requires.same
      (nested_holds g.K.VerifiedKind.schema g.K.VerifiedKind.index c.args.slot
      g.V.Kind.VerifiedKind.index true (view_table c.args.self.now) c.bytes_required.result
      c.args.self.now.verified c.requires.has (c.bytes_required.ensures [] []).answer),
)

pub returns : goal.returns
returns g c = (c.bytes_required.result, c.bytes_required.ensures, c.root_unchecked.ensures)
