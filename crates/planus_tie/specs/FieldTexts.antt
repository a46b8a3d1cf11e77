-- The fields of a struct in its text.
use Rattle.std.specs.Prelude.{List, ℕ, ◌++◌, codes}
use Rattle.planus_tie.specs.Holes.{filled, each}
use Rattle.planus_tie.specs.declared.holes.Holes.{Holes}
use Rattle.planus_tie.specs.declared.naming.Naming.{Naming}

abbrev pub fields_text : Naming → Holes → List Holes → List ℕ
fields_text n own fields = filled n own (codes "pub struct $T {")
    ++ (each n (codes "pub $n: $t,") fields ++ filled n own (codes "}"))

-- each field with its size, and the padding after it
abbrev pub put_text : Naming → Holes → List Holes → List ℕ
put_text n own fields = filled n own (codes "put_fields!(self, bytes;")
    ++ (each n (codes "$n: $z, $x") fields ++ filled n own (codes ");"))

-- each field, and its offset but of the first
abbrev pub taken_text : Naming → Holes → List Holes → List ℕ
taken_text n own fields = filled n own (codes "read_fields!($T, buffer, offset;")
    ++ (each n (codes "$w,") fields ++ filled n own (codes ") } }"))
