-- What is wrong with a value, and where.
use Rattle.std.specs.Prelude.{ℕ, Option, Some, None, Result, Ok, Err}
use Rattle.planus_pack.specs.declared.pack_fault.PackFault.{PackFault}

-- what is wrong, and the distance in bytes from the text's first byte
abbrev pub Fault : Type 0
Fault = PackFault × ℕ

infixl 10 ◌>>=◌
abbrev pub ◌>>=◌ : {A B : Type 0} → Result A Fault → (A → Result B Fault) → Result B Fault
(Ok x) >>= f = f x
(Err e) >>= f = Err e

-- what is there, or this fault at this place
abbrev pub wanted : {A : Type 0} → PackFault → ℕ → Option A → Result A Fault
wanted kind at None = Err (kind, at)
wanted kind at (Some x) = Ok x
