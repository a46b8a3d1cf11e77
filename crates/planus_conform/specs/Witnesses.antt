-- Bytes that two schemas' code reads differently.
use Rattle.std.specs.Prelude.{◌≡◌, ℕ, ◌==◌, List, [], ◌∷◌, Bool, true, false, Option, Some}
use Rattle.planus_dump.specs.Answers.{SeenItems}
use Rattle.planus_schema.specs.declared.scalar.Scalar.{Scalar}
use Rattle.planus_schema.specs.declared.schema.Base.TheVariants as base
use Rattle.planus_schema.specs.declared.schema.Declared.{Declared}
use Rattle.planus_schema.specs.declared.schema.TableField.{TableField}
use Rattle.planus_conform.specs.declared.breaks.Change.{Change}
use Rattle.planus_conform.specs.declared.breaks.Change.TheVariants as change
use Rattle.planus_conform.specs.declared.breaks.Way.{Way}
use Rattle.planus_conform.specs.Found.{field, item, items}
use Rattle.planus_conform.specs.Values.{body_at, fields_in}
use Rattle.planus_conform.specs.Reads.{field_in, root}
use Rattle.planus_conform.specs.Alike.{SameAnswers}
use Rattle.planus_conform.specs.Breaks.{change_from}
use Rattle.planus_conform.specs.Types.{scalar_code}

-- The format: a reference to the object at 8, a vtable with no slots at 4, and the object, which
-- has only the distance back to its vtable.
abbrev pub empty_table : List ℕ
empty_table = 8 ∷ 0 ∷ 0 ∷ 0 ∷ 4 ∷ 0 ∷ 4 ∷ 0 ∷ 4 ∷ 0 ∷ 0 ∷ 0 ∷ []

-- what an absent field shows
abbrev pub shows_absent : Change → Bool
shows_absent change.FieldRemoved = true
shows_absent change.RequiredChanged = true
shows_absent change.RequiredDeprecated = true
shows_absent change.DefaultChanged = true
shows_absent c = false

-- With such a change of a field that old code reads, its accessors don't return the same of the
-- empty table.
abbrev pub ChangesShow : Way → List (Option ℕ) → List Declared → List Declared → Type 0
ChangesShow w m old new =
    (i j n : ℕ) (f : TableField) (c : Change) → field_in (fields_in (body_at old i)) n ≡ Some f
    → f.deprecated ≡ false
    → change_from w m f (field_in (fields_in (body_at new j)) n) ≡ Some c
    → shows_absent c ≡ true
    → SameAnswers w old new (root i empty_table 0) (root j empty_table 0) (field n ∷ []) → ⊥

-- a vector of one item, which begins with 0x81 and has the seven bytes after it up to 0x88
abbrev pub eight_bytes : SeenItems
eight_bytes = record {
  bytes = 129 ∷ 130 ∷ 131 ∷ 132 ∷ 133 ∷ 134 ∷ 135 ∷ 136 ∷ [];
  count = 1;
}

-- Of a vector of another scalar type accessors don't return the same.
abbrev pub TypesShow : Way → List Declared → List Declared → Type 0
TypesShow w old new =
    (s t : Scalar) → (scalar_code s == scalar_code t) ≡ false
    → SameAnswers w old new (items (base.Scalar s) eight_bytes) (items (base.Scalar t) eight_bytes)
    (item 0 ∷ [])
    → ⊥
