use Rattle.std.proofs.Common.{refl}
use Rattle.planus_schema.proofs.number.base.Goals as goal

pub returns-then-hexadecimal : goal.returns-then-hexadecimal
returns-then-hexadecimal c = rw c.if-hexadecimal.true refl
