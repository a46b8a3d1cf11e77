use Rattle.std.specs.Prelude.{ℕ, ◌-◌, List}
use Rattle.std.specs.Int.{w32, to_le_bytes}

-- An item of a vector or a table: its bytes, by its place.
abbrev pub Item : Type 0
Item = ℕ → List ℕ

-- an item that is the same at every place
abbrev pub plain_item : List ℕ → Item
plain_item bytes = λ place. bytes

-- Its place less the distance. The format: a reference is a number of 4 bytes, the distance forward
-- from itself.
abbrev pub reference_item : ℕ → Item
reference_item distance = λ place. to_le_bytes w32 (place - distance)
