-- Encoded values where bytes are prepended.
use Rattle.std.specs.Prelude.{ℕ, ◌+◌, List, ◌++◌, length}
use Rattle.planus_read.specs.Values.{Value}
use Rattle.planus_read.specs.Stands.{Position, at, at_both, Stands, ReferenceStands}

abbrev pub moved : ℕ → Position → Position
moved n (at k) = at (n + k)
moved n (at_both kt kv) = at_both (n + kt) (n + kv)

-- An encoded value stays encoded.
abbrev pub KeepsStanding : Type 0
KeepsStanding =
    (front B : List ℕ) (p : Position) (v : Value) → Stands B p v
    → Stands (front ++ B) (moved (length front) p) v

-- A reference leads to the same distance.
abbrev pub KeepsLeading : Type 0
KeepsLeading =
    (front B : List ℕ) (f distance : ℕ) → ReferenceStands B f distance
    → ReferenceStands (front ++ B) (length front + f) distance

-- A value needs no bytes before it.
abbrev pub StandsAlone : Type 0
StandsAlone =
    (front B : List ℕ) (p : Position) (v : Value) → Stands (front ++ B) (moved (length front) p) v
    → Stands B p v

-- A reference needs none.
abbrev pub LeadsAlone : Type 0
LeadsAlone =
    (front B : List ℕ) (f distance : ℕ) → ReferenceStands (front ++ B) (length front + f) distance
    → ReferenceStands B f distance
