-- Results whose error is converted.
use Rattle.std.specs.Prelude.{Result, Ok, Err}

-- a value, or what its error converts to
abbrev pub Converted :
    {T E F : Type 0} → (Result T F → Type 0) → (F → E → Type 0) → Result T E → Type 0
Converted answers converts (Ok x) = answers (Ok x)
Converted {T} {E} {F} answers converts (Err e) = (f : F) × answers (Err f) × converts f e
