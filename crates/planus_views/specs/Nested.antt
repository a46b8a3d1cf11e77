-- Buffers in byte vectors.
use Rattle.std.specs.Prelude.{ℕ, List, Option, Some, None, Ok}
use Rattle.std.specs.Borrow.{Bor}
use Rattle.planus_read.specs.declared.table_reader.Table.{Table}
use Rattle.planus.specs.Accessors.{IsBytesField, IsBytesRequired}
use Rattle.planus.specs.Roots.{IsRoot}
use Rattle.planus_views.specs.Vectors.{Returns}

module _ {V : Type 0} (K : Type 0) (table_of : V → Table) where
  -- The checked reader of the root of these bytes, whatever name its errors have, would return Ok of
  -- this.
  abbrev pub ReturnsRoot : List ℕ → V → Type 0
  ReturnsRoot bytes view = (name : List ℕ) → IsRoot K name table_of bytes (Ok view)

  -- Of the bytes that the checked accessor would return, if any.
  abbrev pub IsNestedField : Table → ℕ → Option V → Type 0
  IsNestedField table slot None = Returns (IsBytesField table slot) None
  IsNestedField table slot (Some view) =
      (bytes : Bor (List ℕ)) × Returns (IsBytesField table slot) (Some bytes)
      × ReturnsRoot bytes.now view

  abbrev pub IsNestedRequired : Table → ℕ → V → Type 0
  IsNestedRequired table slot view =
      (bytes : Bor (List ℕ)) × Returns (IsBytesRequired table slot) bytes
      × ReturnsRoot bytes.now view
