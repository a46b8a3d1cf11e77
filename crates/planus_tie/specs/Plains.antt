-- What the code of an enum, of flags or of a struct says of its layout.
use Rattle.std.specs.Prelude.{ℕ, List, ◌++◌, codes}
use Rattle.planus_tie.specs.Holes.{filled}
use Rattle.planus_tie.specs.declared.holes.Holes.{Holes}
use Rattle.planus_tie.specs.declared.naming.Naming.{Naming}

abbrev pub layout : List ℕ
layout = codes "impl Plain for $T { ghost ALIGNMENT = { $A }; ghost SIZE = { $S };"
    ++ (codes " ghost shape = { $M_shape }; const ALIGNMENT: usize = $A;"
    ++ codes " const SIZE: usize = $S; fn put(&self, bytes: &mut [u8]) {")

abbrev pub reading : List ℕ
reading = codes "} fn read(buffer: SliceWithStartOffset<'_>, offset: usize)"
    ++ codes " -> Result<$T, ErrorKind> {"

-- up to the body of `put`
abbrev pub layout_text : Naming → Holes → List ℕ
layout_text n own = filled n own layout

-- between the bodies of `put` and `read`
abbrev pub read_text : Naming → Holes → List ℕ
read_text n own = filled n own reading
