use Rattle.std.proofs.Common.{Ok, Some, subst, sym, ◌*◌}
use Rattle.planus.specs.ReadKinds.{reads_text}
use Rattle.planus.proofs.ItemAccessors.{text_item_read}
use Rattle.planus_view.specs.VectorView.{view_of}
use Rattle.planus_views.specs.CheckedVectors.{checked_texts}
use Rattle.planus_views.specs.Fields.{TextHolds}
use Rattle.planus_views.proofs.Merely.{text_had}
use Rattle.planus_views.proofs.texts.TextsReadVerified.item.Goals as goal

pub text_unchecked-requires : goal.text_unchecked-requires
text_unchecked-requires c =
    text_had _ _ (subst (λ l. ∥ TextHolds l (c.args.index * 4) ∥₁) (sym c.items.ensures.bytes)
    (c.args.self.now.verified c.args.index c.requires))

pub returns : goal.returns
returns c =
    let vector = checked_texts c.args.self.now in
    text_item_read vector c.args.index (Some (Ok c.text_unchecked.result)) (
      c.requires,
      subst (λ l. reads_text l (view_of vector).start (c.args.index * 4) (Ok c.text_unchecked.result))
          c.items.ensures.bytes c.text_unchecked.ensures,
    )
