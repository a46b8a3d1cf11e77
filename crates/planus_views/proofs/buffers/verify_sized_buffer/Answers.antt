use Rattle.std.proofs.Common.{Ok, subst, ◌∙◌}
use Rattle.planus_views.specs.Buffers.{IsVerifiedBuffer, VerifiesRoot}
use Rattle.planus_views.proofs.buffers.verify_sized_buffer.Goals as goal

pub returns-in-Ok-verify_buffer : goal.returns-in-Ok-verify_buffer
returns-in-Ok-verify_buffer g c = (
  c.in-Ok.ensures.0,
  c.in-Ok.ensures.1,
  subst
      (λ B. IsVerifiedBuffer (VerifiesRoot g.row.V-Kind.Denot g.V.ViewOf.table
      g.V.Kind.VerifiedKind.schema g.V.Kind.VerifiedKind.index c.args.limits) c.args.identifier B
      (Ok c.in-Ok-verify_buffer.view)) (c.as_slice.ensures ∙ c.in-Ok.ensures.2.content)
      c.in-Ok-verify_buffer.ensures,
  c.in-Ok.ensures.2.rest,
)
