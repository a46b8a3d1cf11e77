-- The slots of a table's fields.
use Rattle.std.specs.Prelude.{◌≡◌, ℕ, ◌+◌, ◌-◌, ◌≤◌, Bool, true, false, ◌&&◌, not, nat_eq, nat_lt}
use Rattle.std.specs.Prelude.{nat_le, List, [], ◌∷◌, ◌++◌, length, Option, Some, None}
use Rattle.std.specs.Prelude.{if◌then◌else◌}
use Rattle.std.specs.List.{list_any, list_all}
use Rattle.planus_schema.specs.declared.schema.Base.{Base}
use Rattle.planus_schema.specs.declared.schema.Base.TheVariants as base
use Rattle.planus_schema.specs.declared.schema.FieldType.{FieldType}
use Rattle.planus_schema.specs.declared.schema.TableField.{TableField}

abbrev pub is_union_base : Base → Bool
is_union_base (base.Scalar s) = false
is_union_base base.Text = false
is_union_base (base.Enum i) = false
is_union_base (base.Struct i) = false
is_union_base (base.Table i) = false
is_union_base (base.Union i) = true

-- a union's type has the slot before its value
abbrev pub is_union : FieldType → Bool
is_union t = is_union_base t.base

abbrev pub width : FieldType → ℕ
width t = if is_union t then 2 else 1

abbrev pub slots_of : TableField → List ℕ
slots_of f = if is_union f.kind then (f.slot - 1) ∷ f.slot ∷ [] else f.slot ∷ []

abbrev pub slots_taken : List TableField → List ℕ
slots_taken [] = []
slots_taken (f ∷ fs) = slots_of f ++ slots_taken fs

-- each field takes the next slots
abbrev pub Follow : ℕ → List TableField → ℕ → Type 0
Follow at [] end = at ≡ end
Follow at (f ∷ fs) end = (f.slot + 1 ≡ at + width f.kind) × Follow (at + width f.kind) fs end

-- a union's type has room before it
abbrev pub id_with_room : FieldType → Option ℕ → Option ℕ
id_with_room t None = None
id_with_room t (Some n) = if nat_le (width t) (n + 1) then Some n else None

-- with `ids` the field's own slot, else the next
abbrev pub slot_said : Option ℕ → FieldType → Bool → ℕ → Option ℕ
slot_said id t true next = id_with_room t id
slot_said id t false next = Some (next + (width t - 1))

abbrev pub are_apart : List ℕ → Bool
are_apart [] = true
are_apart (n ∷ ns) = not (list_any (nat_eq n) ns) && are_apart ns

-- the numbers from 0 on, each once
abbrev pub are_whole : List ℕ → Bool
are_whole ns = list_all (λ n. nat_lt n (length ns)) ns && are_apart ns

-- each slot from 0 on once, and no more than a vtable has room for
pub record AreSlots (slots : List ℕ) : Type 0 where
  pub whole : are_whole slots ≡ true
  pub room : length slots ≤ 32765
