-- What verification without faults says: that steps pass, or nothing.
use Rattle.std.specs.Prelude.{◌≡◌, ℕ, ◌*◌, List, [], ◌∷◌, Option, Some, None, Ok, Bool, ⊤}
use Rattle.std.specs.Prelude.{slice_index}
use Rattle.planus_read.specs.Tables.{table_object, table_slots, table_start}
use Rattle.planus_read.specs.declared.table_reader.Table.{Table}
use Rattle.planus_view.specs.UnionViews.{UnionView}
use Rattle.planus_verify.specs.Schemas.{Shapes, variant_in}
use Rattle.planus_verify.specs.Steps.{Step, Faults, field_steps, items_from, variant_steps}
use Rattle.planus_verify.specs.Walks.{DoesTable, InOrder, Walks}
use Rattle.planus_verify.specs.declared.entered.Entered.{Entered}
use Rattle.planus_verify.specs.declared.schema.FieldShape.{FieldShape}
use Rattle.planus_verify.specs.declared.schema.FieldKind.{FieldKind}
use Rattle.planus_verify.specs.declared.schema.Variant.{Variant}

-- the table that was entered, and how many tables may stand one in the other below it
abbrev pub entered_table : {K : _} → Entered K → Table
entered_table entered = entered.table

abbrev pub entered_depth : {K : _} → Entered K → ℕ
entered_depth entered = entered.depth

-- With `Some` all steps pass, and so many tables may still be entered. `None` says nothing.
abbrev pub StepsPass : DoesTable → List Step → ℕ → Option ℕ → Type 0
StepsPass Table steps left None = ⊤
StepsPass Table steps left (Some rest) = InOrder Table steps left (Ok rest)

-- the same of a table of an index
abbrev pub TablePasses : Shapes → ℕ → ℕ → Table → ℕ → Option ℕ → Type 0
TablePasses schema n t table left None = ⊤
TablePasses schema n t table left (Some rest) =
    Walks schema n t (table_object table) (table_slots table) (table_start table) left (Ok rest)

abbrev pub field_of : ℕ → Bool → FieldKind → FieldShape
field_of slot required kind = record { slot = slot; required = required; kind = kind }

-- of one of its fields; tables stand one in the other to a depth of n below it
abbrev pub FieldPasses : Shapes → ℕ → ℕ → Table → FieldShape → ℕ → Option ℕ → Type 0
FieldPasses schema n t table field =
    StepsPass (Walks schema n) (field_steps schema.variants t (table_object table)
    (table_slots table) (table_start table) field)

-- the steps of a member of a union vector, and those of all
abbrev pub member_steps_of : List Variant → Faults → ℕ → UnionView → ℕ → List Step
member_steps_of variants at u view i =
    variant_steps (at (Some i)) (variant_in variants u (slice_index view.tags i)) view.references
    view.start (i * 4)

abbrev pub members_steps : List Variant → Faults → ℕ → UnionView → List Step
members_steps variants at u view = items_from 0 view.count (member_steps_of variants at u view)

-- Some fields pass, one after the other.
abbrev pub FieldsPass : Shapes → ℕ → ℕ → Table → List FieldShape → ℕ → ℕ → Type 0
FieldsPass schema n t table [] left rest = rest ≡ left
FieldsPass schema n t table (field ∷ fields) left rest =
    (next : ℕ) × FieldPasses schema n t table field left (Some next)
    × FieldsPass schema n t table fields next rest
