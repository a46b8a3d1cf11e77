use Rattle.std.proofs.Common.{Err, refl, ap, sym, ◌∙◌}
use Rattle.planus_read.proofs.located.locate.Goals as goal

pub returns-in-Err : goal.returns-in-Err
returns-in-Err g c = (
  ap Err c.with_error_location.ensures.kind ∙ sym c.in-Err.is,
  rw c.with_error_location.ensures.location (record {
    type_name = refl;
    method_name = refl;
    byte_offset = refl;
  }),
)
