-- The roots of size-prefixed buffers.
use Rattle.std.specs.Prelude.{◌≡◌, ◌++◌, ◌⊎◌, List, ℕ, codes, Option, Result, Ok, Err, IsOkAnd}
use Rattle.std.specs.Borrow.{Bor}
use Rattle.planus_read.specs.declared.errors.ErrorKind.{ErrorKind}
use Rattle.planus_read.specs.declared.located.Error.{Error}
use Rattle.planus_read.specs.declared.table_reader.Table.{Table}
use Rattle.planus_read.specs.Clauses.{FirstBroken}
use Rattle.planus_read.specs.Located.{Located}
use Rattle.planus_read.specs.SizePrefixed.{Prefixed, PrefixedThere, prefixed_clauses, IsPrefixed}
use Rattle.planus_read.specs.Stands.{ReferenceStands}
use Rattle.planus_write.specs.Contents.{Content}
use Rattle.planus.specs.ReadBack.{ContentsStand, TableHolds}
use Rattle.planus.specs.Views.{reads_as}

module _ {V : Type 0} (table_of : V → Table) (B : List ℕ) where
  -- the result for the root of the buffer after a size, whose first byte is at 4
  abbrev pub ReadsContent : Prefixed → Result V ErrorKind → Type 0
  ReadsContent prefixed = reads_as table_of prefixed.content 4 0

  -- the root of the first buffer and what follows the buffer, or the error of the size or the root
  abbrev pub ReadsSized : Result (V × Bor (List ℕ)) ErrorKind → Type 0
  ReadsSized (Ok read) =
      (prefixed : Prefixed) × PrefixedThere B prefixed.content prefixed.rest
      × ReadsContent prefixed (Ok read.0) × (read.1.now ≡ prefixed.rest)
  ReadsSized (Err e) =
      FirstBroken (prefixed_clauses B) e
      ⊎ ((prefixed : Prefixed) × PrefixedThere B prefixed.content prefixed.rest
      × ReadsContent prefixed (Err e))

-- The same, an error at the first byte; a table in the first buffer, to which the reference after its
-- size leads, is read with all its contents.
pub record IsSizedRoot {V : Type 0} (name : List ℕ) (table_of : V → Table) (B : List ℕ)
    (r : Result (V × Bor (List ℕ)) Error) : Type 0 where
  pub answer : Located (ReadsSized table_of B) name (codes "read_as_root") 0 r
  pub read_back :
      (buffer rest : List ℕ) (contents : List (ℕ × Option Content)) (distance : ℕ)
      → B ≡ buffer ++ rest → IsPrefixed buffer → ContentsStand buffer contents distance
      → ReferenceStands buffer 4 distance
      → IsOkAnd r (λ read. TableHolds buffer contents (table_of read.0) × (read.1.now ≡ rest))
