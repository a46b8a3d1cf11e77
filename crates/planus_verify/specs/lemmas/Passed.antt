-- From the fields of a table to the table.
use Prim.Native.Nat.{suc}
use Rattle.std.proofs.Common.{◌≡◌, ℕ, ◌+◌, List, [], ◌∷◌, refl, subst, arith, Some, Ok, Result}
use Rattle.planus_read.specs.Tables.{table_object, table_slots, table_start}
use Rattle.planus_read.specs.declared.table_reader.Table.{Table}
use Rattle.planus_verify.specs.Passes.{FieldsPass, TablePasses}
use Rattle.planus_verify.specs.Schemas.{Shapes, fields_of}
use Rattle.planus_verify.specs.Steps.{field_steps, fields_steps}
use Rattle.planus_verify.specs.Walks.{InOrder, Walks}
use Rattle.planus_verify.specs.declared.fault.Fault.{Fault}
use Rattle.planus_verify.specs.declared.schema.FieldShape.{FieldShape}
use Rattle.planus_verify.specs.lemmas.InOrder.{then_more}

fields_passed :
    (schema : Shapes) (n t : ℕ) (table : Table) (fields : List FieldShape) (left rest : ℕ)
    → FieldsPass schema n t table fields left rest
    → InOrder (Walks schema n) (fields_steps schema.variants t (table_object table)
    (table_slots table) (table_start table) fields) left (Ok rest)
fields_passed schema n t table [] left rest same = subst (λ m. ◌≡◌ {A = Result ℕ Fault} (Ok rest) (Ok m)) same refl
fields_passed schema n t table (field ∷ fields) left rest (next, passed, more) =
    then_more (Walks schema n)
    (field_steps schema.variants t (table_object table) (table_slots table) (table_start table) field)
    (fields_steps schema.variants t (table_object table) (table_slots table) (table_start table)
    fields)
    left next (Ok rest) passed (fields_passed schema n t table fields next rest more)

-- a field, and those after it
pub field : {P Q : ℕ → Type 0} (next : ℕ) → P next → Q next → (m : ℕ) × P m × Q m
field next first more = (next, first, more)

-- a table that was entered and counted, and all of whose fields pass
pub table :
    (schema : Shapes) (t depth n : ℕ) (given entered : Table) (before left rest : ℕ)
    → entered ≡ given → depth ≡ n + 1 → before ≡ left + 1
    → FieldsPass schema n t entered (fields_of schema t) left rest
    → TablePasses schema depth t given before (Some rest)
table schema t depth n given entered before left rest same deeper counted passed =
    let one : suc n ≡ depth = omega (arith, deeper) in
    let more : suc left ≡ before = omega (arith, counted) in
    subst (λ d. TablePasses schema d t given before (Some rest)) one
    (subst (λ m. TablePasses schema (suc n) t given m (Some rest)) more
    (subst (λ a. TablePasses schema (suc n) t a (suc left) (Some rest)) same
    (fields_passed schema n t entered (fields_of schema t) left rest passed)))
