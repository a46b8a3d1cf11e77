-- Unions of verified tables.
use Rattle.std.specs.Prelude.{◌≡◌, ℕ, List, Option, Some, None, Result, Ok, Err}
use Rattle.planus_read.specs.declared.errors.ErrorKind.{ErrorKind}
use Rattle.planus_read.specs.declared.errors.ErrorKind.TheVariants.{UnknownUnionTag}
use Rattle.planus_read.specs.declared.located.Error.{Error}
use Rattle.planus_read.specs.declared.table_reader.Table.{Table}
use Rattle.planus_read.specs.Items.{item_method}
use Rattle.planus_read.specs.Located.{Located}
use Rattle.planus_read.specs.Slices.{slice_bytes, slice_start}
use Rattle.planus_read.specs.Tables.{table_start}
use Rattle.planus_views.specs.declared.union_of.Member.{Member}

abbrev pub member_tag : Member → ℕ
member_tag member = member.tag

abbrev pub member_bytes : Member → List ℕ
member_bytes member = slice_bytes member.buffer

abbrev pub member_start : Member → ℕ
member_start member = slice_start member.buffer

abbrev pub member_offset : Member → ℕ
member_offset member = member.offset

-- what the checked reader of a union returns, and that of a tag that its schema doesn't have
abbrev pub Checked : Type 0 → Type 0
Checked U = Result U ErrorKind

abbrev pub unknown : {U : Type 0} → ℕ → Checked U
unknown tag = Err (UnknownUnionTag tag)

abbrev pub some_if : {U : Type 0} → Result U ErrorKind → Result (Option U) ErrorKind
some_if (Ok union) = Ok (Some union)
some_if (Err e) = Err e

-- what the checked accessor returns of an optional union
abbrev pub checked_option :
    {U : Type 0} → (U → Result U ErrorKind) → Option U → Result (Option U) ErrorKind
checked_option checked None = Ok None
checked_option checked (Some union) = some_if (checked union)

-- The checked reader of an item, whatever name its errors have, would return this, its error at this
-- start.
abbrev pub ItemReturnsAs :
    {A : Type 0} → (List ℕ → Option (Result A Error) → Type 0) → ℕ → Option (Result A ErrorKind)
    → Type 0
ItemReturnsAs Clause start None = (name : List ℕ) → Clause name None
ItemReturnsAs {A} Clause start (Some answer) =
    (name : List ℕ) (r : Result A Error)
    → Located (λ found. found ≡ answer) name item_method start r → Clause name (Some r)

-- The checked accessor of this clause, whatever the names in its errors, would return this, its
-- error at this table.
abbrev pub ReturnsAs :
    {A : Type 0} → (List ℕ → List ℕ → Result A Error → Type 0) → Table → Result A ErrorKind → Type 0
ReturnsAs {A} Clause table answer =
    (type_ method : List ℕ) (r : Result A Error)
    → Located (λ found. found ≡ answer) type_ method (table_start table) r → Clause type_ method r
