use Rattle.std.proofs.Common.{refl}
use Rattle.planus_views.proofs.buffers.verify_buffer.Goals as goal

pub returns-in-Ok : goal.returns-in-Ok
returns-in-Ok g c =
    (c.if-not-is_identified.ensures.0 refl, (c.in-Ok.ensures.root, c.in-Ok.ensures.passed))
