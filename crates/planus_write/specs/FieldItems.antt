-- What is written in place as a field of a table.
use Rattle.std.specs.Prelude.{◌≡◌, ℕ, ◌≤◌}
use Rattle.planus_read.specs.Aligned.{field_alignment}
use Rattle.planus_read.specs.Values.{Field}
use Rattle.planus_write.specs.Items.{Item}
use Rattle.planus_write.specs.Tables.{IsFieldAfter, field_item, field_size}

-- What is written with this size, alignment, bytes and reach is this field of the format.
pub record IsItem (size alignment : ℕ) (encoding : Item) (reach : ℕ) (field : Field) : Type 0 where
  pub size_is : field_size field ≡ size
  pub alignment_is : field_alignment field ≡ alignment
  pub encoding_is : field_item field ≡ encoding
  pub stands : (before : ℕ) → reach ≤ before → IsFieldAfter before field
