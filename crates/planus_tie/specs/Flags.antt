-- The text of a set of flags.
use Rattle.std.specs.Prelude.{◌≡◌, ℕ, Bool, true, false, ◌||◌, List, ◌++◌, codes, length}
use Rattle.planus_schema.specs.declared.schema.Enum.{Enum}
use Rattle.planus_tie.specs.Bare.{bare}
use Rattle.planus_tie.specs.Enums.{holes_of, values_from}
use Rattle.planus_tie.specs.Holes.{filled, each, has_text}
use Rattle.planus_tie.specs.Plains.{layout_text, read_text}
use Rattle.planus_tie.specs.declared.holes.Holes.{Holes}
use Rattle.planus_tie.specs.declared.naming.Naming.{Naming}

-- of the set; its place is how many flags there are
abbrev pub flags_holes : ℕ → Enum → Holes
flags_holes i one = holes_of i one (length one.values.items)
    (record { negative = false; magnitude = 0 })

abbrev pub set_head : List ℕ
set_head = codes "pub struct $T { pub bits: $b, } impl $T {"
    ++ codes " pub const NOTHING: $T = $T { bits: 0 };"

-- each flag with its bits
abbrev pub bits_text : Naming → Holes → List Holes → List ℕ
bits_text n own values = filled n own set_head
    ++ each n (codes "pub const $n: $T = $T { bits: $i };") values

abbrev pub set_methods : List ℕ
set_methods = codes "pub fn has(&self, others: $T) -> bool ensures {"
    ++ (codes " result $= (bit_and self.now.bits others.bits == others.bits) }"
    ++ (codes " { self.bits & others.bits == others.bits }"
    ++ (codes " pub fn with(&self, others: $T) -> $T ensures {"
    ++ (codes " result.bits $= bit_or self.now.bits others.bits }"
    ++ codes " { $T { bits: self.bits | others.bits } }"))))

-- `each` returns them all
abbrev pub clause_text : Naming → Holes → List Holes → List ℕ
clause_text n own values =
    filled n own (codes "pub fn each() -> [$T; $p] ensures { result $=")
    ++ each n (codes "record { bits = $i } $:") values

-- a list on several lines has a comma at its end
abbrev pub items_text : Naming → List ℕ → Holes → List Holes → List ℕ
items_text n end own values = filled n own (codes "[] } { [")
    ++ (each n (codes "$,$T::$n") values ++ filled n own end)

-- the bits are written and read
abbrev pub stored_text : Naming → Holes → List ℕ
stored_text n own = layout_text n own
    ++ (filled n own (codes "put_fields!(self, bytes; bits: $S);") ++ (read_text n own
    ++ filled n own (codes "read_fields!($T, buffer, offset; bits) } }")))

abbrev pub flags_text : Naming → List ℕ → Holes → List Holes → List ℕ
flags_text n end own values = bits_text n own values ++ (filled n own set_methods
    ++ (clause_text n own values ++ (items_text n end own values ++ stored_text n own)))

abbrev pub is_flags_text : Naming → Holes → List Holes → List ℕ → Bool
is_flags_text n own values text = has_text text (flags_text n (codes "] } }") own values)
    || has_text text (flags_text n (codes ",] } }") own values)

-- The text has each flag with its bits, and writes and reads the bits of a set.
abbrev pub IsFlagsTied : Naming → ℕ → Enum → List ℕ → Type 0
IsFlagsTied n i one text =
    is_flags_text n (flags_holes i one) (values_from i one 0 one.values.items) (bare text) ≡ true
