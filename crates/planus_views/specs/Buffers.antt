-- Buffers that have a size before them or a file identifier, verified.
use Rattle.std.specs.Borrow.{Bor}
use Rattle.std.specs.Prelude.{◌≡◌, ◌⊎◌, ℕ, List, Option, Some, None, Result, Ok, Err, ⊤}
use Rattle.planus.specs.Roots.{IsRoot}
use Rattle.planus_read.specs.Bytes.{BytesStand}
use Rattle.planus_read.specs.Clauses.{FirstBroken}
use Rattle.planus_read.specs.SizePrefixed.{Prefixed, PrefixedThere, prefixed_clauses}
use Rattle.planus_read.specs.declared.errors.ErrorKind.{ErrorKind}
use Rattle.planus_read.specs.declared.table_reader.Table.{Table}
use Rattle.planus_verify.specs.Schemas.{Shapes}
use Rattle.planus_read.specs.Tables.{table_object, table_slots, table_start}
use Rattle.planus_verify.specs.Walks.{RootWalks, Walks}
use Rattle.planus_verify.specs.declared.fault.Fault.{Fault}
use Rattle.planus_verify.specs.declared.limits.Limits.{Limits}
use Rattle.planus_views.specs.declared.buffer_fault.BufferFault.{BufferFault}
use Rattle.planus_views.specs.declared.buffer_fault.BufferFault.TheVariants as fault

-- The root is verified within the limits, and this is its view; or else this is the first fault.
abbrev pub VerifiesRoot :
    {V : Type 0} → Type 0 → (V → Table) → Shapes → ℕ → Limits → List ℕ → Result V Fault → Type 0
VerifiesRoot K table_of schema index limits B (Ok view) =
    ((name : List ℕ) → IsRoot K name table_of B (Ok view))
    × ((left : ℕ) × RootWalks schema index limits.depth limits.tables B (Ok left))
VerifiesRoot K table_of schema index limits B (Err found) =
    RootWalks schema index limits.depth limits.tables B (Err found)

-- This table is verified within the limits, and this is its view; or else this is the first fault.
abbrev pub VerifiesTable :
    {V : Type 0} → (V → Table) → Shapes → ℕ → Limits → Table → Result V Fault → Type 0
VerifiesTable table_of schema index limits table (Ok view) =
    (table_of view ≡ table) × ((left : ℕ) × Walks schema limits.depth index (table_object table)
    (table_slots table) (table_start table) limits.tables (Ok left))
VerifiesTable table_of schema index limits table (Err found) =
    Walks schema limits.depth index (table_object table) (table_slots table) (table_start table)
    limits.tables (Err found)

-- The format: a file identifier is the four bytes after the root's reference.
abbrev pub IsIdentified : Option (List ℕ) → List ℕ → Type 0
IsIdentified None B = ⊤
IsIdentified (Some identifier) B = BytesStand B 4 identifier

module _ {V : Type 0} (Verifies : List ℕ → Result V Fault → Type 0)
    (identifier : Option (List ℕ)) where
  -- A buffer with this identifier, if any, is verified.
  abbrev pub IsVerifiedBuffer : List ℕ → Result V BufferFault → Type 0
  IsVerifiedBuffer B (Ok view) = IsIdentified identifier B × Verifies B (Ok view)
  IsVerifiedBuffer B (Err (fault.Size e)) = ⊥
  IsVerifiedBuffer B (Err fault.Identifier) = IsIdentified identifier B → ⊥
  IsVerifiedBuffer B (Err (fault.Content found)) =
      IsIdentified identifier B × Verifies B (Err found)

  -- So is the first of some size-prefixed ones, and the others follow it; or else its size has the
  -- first error.
  abbrev pub IsVerifiedSized : List ℕ → Result (V × Bor (List ℕ)) BufferFault → Type 0
  IsVerifiedSized B (Ok read) =
      (prefixed : Prefixed) × PrefixedThere B prefixed.content prefixed.rest
      × IsVerifiedBuffer prefixed.content (Ok read.0) × (read.1.now ≡ prefixed.rest)
  IsVerifiedSized B (Err found) =
      ((e : ErrorKind) × FirstBroken (prefixed_clauses B) e × (found ≡ fault.Size e))
      ⊎ ((prefixed : Prefixed) × PrefixedThere B prefixed.content prefixed.rest
      × IsVerifiedBuffer prefixed.content (Err found))
