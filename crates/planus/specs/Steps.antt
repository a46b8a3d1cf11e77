-- Steps of a run, without locations in memory.
use Rattle.std.specs.Prelude.{ℕ, Bool, true, false, List, Option, map}
use Rattle.std.specs.String.{string_bytes}
use Rattle.planus.specs.declared.replaying.steps.Step as code
use Rattle.planus.specs.declared.replaying.steps.Step.TheVariants.{Text, Bytes, Numbers, Refs, Unions}
use Rattle.planus.specs.declared.replaying.steps.Step.TheVariants.{Struct, Plains, Table, Finish, FinishSized, Clear}
use Rattle.planus.specs.declared.replaying.steps.Field.{Field}
use Rattle.planus.specs.declared.replaying.steps.FieldValue.{FieldValue}
use Rattle.planus.specs.declared.replaying.steps.FieldValue.TheVariants.{Number, Plain, Ref, Tags, Values}

-- a number with its width in bytes, a struct's alignment and bytes, or a reference to a step's
-- value, tags or references
pub data FieldStep : Type 0 where
  number_field : (width : ℕ) → ℕ → FieldStep
  struct_field : (alignment : ℕ) → List ℕ → FieldStep
  ref_field : ℕ → FieldStep
  tags_field : ℕ → FieldStep
  values_field : ℕ → FieldStep

-- a buffer begins with the root's reference, or with its size
pub data Front : Type 0 where
  root_first : Front
  size_first : Front

-- by whether the size is wanted
abbrev pub front_of : Bool → Front
front_of true = size_first
front_of false = root_first

-- numbers come with their width in bytes
pub data Step : Type 0 where
  text : List ℕ → Step
  bytes : List ℕ → Step
  numbers : (width : ℕ) → List ℕ → Step
  refs : List ℕ → Step
  unions : List (ℕ × ℕ) → Step
  struct : (alignment : ℕ) → List ℕ → Step
  plains : (alignment size : ℕ) → List ℕ → Step
  table : List (ℕ × FieldStep) → Step
  finish : Front → ℕ → Option (List ℕ) → Step
  clear : Step

-- what a field holds
abbrev pub content_of : FieldValue → FieldStep
content_of (Number width value) = number_field width value
content_of (Plain alignment content) = struct_field alignment content.items
content_of (Ref step) = ref_field step
content_of (Tags step) = tags_field step
content_of (Values step) = values_field step

-- a field's slot, and what it holds
abbrev pub bare_field : Field → ℕ × FieldStep
bare_field field = (field.slot, content_of field.value)

-- a step, without its location in memory
abbrev pub bare_step : code.Step → Step
bare_step (Text words) = text (string_bytes words)
bare_step (Bytes content) = bytes content.items
bare_step (Numbers width items) = numbers width items.items
bare_step (Refs steps) = refs steps.items
bare_step (Unions items) = unions items.items
bare_step (Struct alignment content) = struct alignment content.items
bare_step (Plains alignment size content) = plains alignment size content.items
bare_step (Table fields) = table (map bare_field fields.items)
bare_step (Finish root id) = finish root_first root id
bare_step (FinishSized root id) = finish size_first root id
bare_step Clear = clear
