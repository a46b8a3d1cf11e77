-- Calls of the code of a schema, and what they return.
use Rattle.std.specs.Prelude.{ℕ, List}
use Rattle.planus_dump.specs.Answers.{Seen, SeenItems, SeenUnions}
use Rattle.planus_schema.specs.declared.schema.Base.{Base}
use Rattle.planus_conform.specs.Floats.{DefaultV}

-- A call of an accessor: of a table's field by its slot, of a struct's field by its distance, of an
-- item of a vector or an array, or of the root of the buffer that is in the byte vector of a slot.
pub data Call : Type 0 where
  field : ℕ → Call
  part : ℕ → Call
  item : ℕ → Call
  buffer : ℕ → Call

-- What a call returns.
-- `unknown`: the schema's code has no such accessor. `withdrawn`: it has none, since the field is
-- deprecated. `unopened`: it has none, since the schema doesn't say that the bytes are a buffer.
-- `missing`: the error of a required field that is absent.
-- `stranger`: the error of a number or a tag that the enum or the union doesn't have.
-- `table`, `structure`: of the declaration with this index. `member`: what the reference of a union
-- with this tag leads to. `items`: a vector, or an array in a struct. `unions`: a vector.
pub data Found : Type 0 where
  unknown : Found
  withdrawn : Found
  unopened : Found
  absent : Found
  missing : Found
  default : DefaultV → Found
  shown : List ℕ → Found
  bits : ℕ → Found
  known : ℕ → Found
  stranger : ℕ → Found
  fault : List ℕ → Found
  table : ℕ → Seen → Found
  structure : ℕ → List ℕ → Found
  member : ℕ → Found → Found
  items : Base → SeenItems → Found
  unions : ℕ → SeenUnions → Found
