-- Bytes that grow at their front.
use Rattle.std.specs.Prelude.{ℕ, List}

-- the bytes, and how many more fit without memory
pub record BackBytes : Type 0 where
  pub bytes : List ℕ
  pub room : ℕ
