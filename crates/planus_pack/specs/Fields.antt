-- The fields of a table, as they are gathered from an object.
use Rattle.std.specs.Prelude.{ℕ, suc, ◌==◌, Bool, ◌&&◌, not, nat_le, nat_lt, if◌then◌else◌}
use Rattle.std.specs.Prelude.{List, [], ◌∷◌, Result, Ok, Err}
use Rattle.std.specs.List.{list_any}
use Rattle.planus.specs.Steps.{FieldStep, number_field, struct_field, ref_field, tags_field}
use Rattle.planus.specs.Steps.{values_field}
use Rattle.planus_schema.specs.declared.schema.TableField.{TableField}
use Rattle.planus_pack.specs.declared.pack_fault.PackFault.TheVariants as fault
use Rattle.planus_pack.specs.Faults.{Fault}

-- a slot, and what it holds
abbrev pub FieldV : Type 0
FieldV = ℕ × FieldStep

abbrev pub alignment_of : FieldStep → ℕ
alignment_of (number_field width n) = width
alignment_of (struct_field alignment content) = alignment
alignment_of (ref_field n) = 4
alignment_of (tags_field n) = 4
alignment_of (values_field n) = 4

-- a field after all others whose alignment is not less
abbrev pub inserted : FieldV → List FieldV → List FieldV
inserted f [] = f ∷ []
inserted f (g ∷ gs) = if nat_lt (alignment_of g.1) (alignment_of f.1) then f ∷ g ∷ gs
    else g ∷ inserted f gs

-- how many fields stand before it
abbrev pub place_in : ℕ → List FieldV → ℕ
place_in alignment [] = 0
place_in alignment (g ∷ gs) =
    if nat_lt (alignment_of g.1) alignment then 0 else suc (place_in alignment gs)

abbrev pub with_slot : ℕ → ℕ → FieldStep → List FieldV → Result (List FieldV) Fault
with_slot at slot value fields =
    if nat_le slot 255 then Ok (inserted (slot, value) fields) else Err (fault.Unsupported, at)

abbrev pub has_slot : ℕ → List FieldV → Bool
has_slot slot fields = list_any (λ f. f.0 == slot) fields

-- what the object at `at` has to give, in the schema's order
abbrev pub complete : ℕ → List FieldV → List TableField → Result ℕ Fault
complete at given [] = Ok 0
complete at given (f ∷ fs) =
    if f.required && not (has_slot f.slot given) then Err (fault.MissingField, at)
    else complete at given fs
