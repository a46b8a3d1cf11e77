-- Results that are known to be values.
use Rattle.std.specs.Prelude.{Option, Some, None, Result, Ok, ℕ, List}
use Rattle.planus_read.specs.declared.located.Error.{Error}

-- as an item's checked accessor returns it
abbrev pub all_ok : {T : Type 0} → Option T → Option (Result T Error)
all_ok None = None
all_ok (Some x) = Some (Ok x)

-- The checked accessor of this clause, whatever the names in its errors, would return Ok of this.
abbrev pub Returns : {T : Type 0} → (List ℕ → List ℕ → Result T Error → Type 0) → T → Type 0
Returns Clause x = (type_ method : List ℕ) → Clause type_ method (Ok x)
