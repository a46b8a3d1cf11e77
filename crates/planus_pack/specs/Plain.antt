-- Values of a fixed size, as bytes.
use Rattle.std.specs.Prelude.{ℕ, zero, suc, ◌-◌, ◌==◌, if◌then◌else◌}
use Rattle.std.specs.Prelude.{List, [], ◌∷◌, ◌++◌, length, Option, Some, None, Result, Ok, Err}
use Rattle.std.specs.Str.{bytes_eq}
use Rattle.planus_schema.specs.declared.scalar.Scalar.{Scalar}
use Rattle.planus_schema.specs.declared.schema.Base.{Base}
use Rattle.planus_schema.specs.declared.schema.Base.TheVariants as base
use Rattle.planus_schema.specs.declared.schema.Declared.{Declared}
use Rattle.planus_schema.specs.declared.schema.Enum.{Enum}
use Rattle.planus_schema.specs.declared.schema.Struct.{Struct}
use Rattle.planus_schema.specs.declared.schema.StructField.{StructField}
use Rattle.planus_schema.specs.Numbers.{scalar_size}
use Rattle.planus_json_syntax.specs.Values.{JsonV, MemberV}
use Rattle.planus_pack.specs.declared.pack_fault.PackFault.TheVariants as fault
use Rattle.planus_pack.specs.Faults.{Fault, ◌>>=◌, wanted}
use Rattle.planus_pack.specs.Parts.{items_of, members_of, given}
use Rattle.planus_pack.specs.Floats.{scalar_at}
use Rattle.planus_pack.specs.Numbers.{number_bytes}
use Rattle.planus_pack.specs.Numbers as numbers
use Rattle.planus_pack.specs.Lookup.{enum_at, struct_at, is_struct_field}

-- the bytes so far and those of a value
abbrev pub Bytes : Type 0
Bytes = Result (List ℕ) Fault

-- what a value adds to the bytes
abbrev pub Adds : Type 0
Adds = List ℕ → JsonV → Bytes

-- ---- keys

-- the place of the first member with this key
abbrev pub place_of : List ℕ → List MemberV → Option ℕ
place_of key [] = None
place_of key (m ∷ ms) = if bytes_eq m.key key then Some m.at else place_of key ms

abbrev pub once_or : Option ℕ → Result ℕ Fault → Result ℕ Fault
once_or None rest = rest
once_or (Some at) rest = Err (fault.GivenTwice, at)

-- no key stands twice, else the first that does is wrong where it stands again
abbrev pub each_once : List MemberV → Result ℕ Fault
each_once [] = Ok 0
each_once (m ∷ ms) = once_or (place_of m.key ms) (each_once ms)

-- each key is that of a field
abbrev pub each_known : List StructField → List MemberV → Result ℕ Fault
each_known fs [] = Ok 0
each_known fs (m ∷ ms) =
    if is_struct_field m.key fs then each_known fs ms else Err (fault.UnknownKey, m.at)

-- ---- bytes

-- so many zeros more
abbrev pub with_zeros : ℕ → List ℕ → List ℕ
with_zeros zero bytes = bytes
with_zeros (suc n) bytes = with_zeros n (bytes ++ 0 ∷ [])

-- zeros up to a distance from `start`
abbrev pub padded : ℕ → ℕ → List ℕ → List ℕ
padded start distance bytes = with_zeros (distance - (length bytes - start)) bytes

abbrev pub with_scalar : Scalar → Adds
with_scalar s bytes json = scalar_at s json >>= λ n. Ok (bytes ++ number_bytes (scalar_size s) n)

abbrev pub with_enum : Enum → Adds
with_enum e bytes json =
    numbers.enum_at e json >>= λ n. Ok (bytes ++ number_bytes (scalar_size e.scalar) n)

-- one after another
abbrev pub with_each : Adds → List ℕ → List JsonV → Bytes
with_each adds bytes [] = Ok bytes
with_each adds bytes (j ∷ js) = adds bytes j >>= λ more. with_each adds more js

-- exactly so many
abbrev pub with_count : Adds → ℕ → ℕ → List ℕ → List JsonV → Bytes
with_count adds at count bytes js =
    if length js == count then with_each adds bytes js else Err (fault.WrongLength, at)

abbrev pub with_array : Adds → ℕ → Adds
with_array adds count bytes json = wanted fault.WrongKind json.at (items_of json.value)
    >>= with_count adds json.at count bytes

abbrev pub with_value : Adds → Option ℕ → Adds
with_value adds None = adds
with_value adds (Some count) = with_array adds count

module _ (declared : List Declared) where
  -- a value, by how structs are written
  abbrev pub with_base : (ℕ → Adds) → Base → Adds
  with_base structs (base.Scalar s) bytes json = with_scalar s bytes json
  with_base structs base.Text bytes json = Err (fault.Unsupported, json.at)
  with_base structs (base.Enum i) bytes json =
      wanted fault.Unsupported json.at (enum_at declared i) >>= λ e. with_enum e bytes json
  with_base structs (base.Struct i) bytes json = structs i bytes json
  with_base structs (base.Table i) bytes json = Err (fault.Unsupported, json.at)
  with_base structs (base.Union i) bytes json = Err (fault.Unsupported, json.at)

  module _ (structs : ℕ → Adds) where
    -- the field of a struct that begins at `start`, which is given by the object at `at`
    abbrev pub with_field : ℕ → List MemberV → ℕ → StructField → List ℕ → Bytes
    with_field at ms start f bytes = wanted fault.MissingField at (given f.name.items ms)
        >>= with_value (with_base structs f.base) f.count (padded start f.distance bytes)

    -- the fields in the order of the schema
    abbrev pub with_fields : ℕ → List MemberV → ℕ → List StructField → List ℕ → Bytes
    with_fields at ms start [] bytes = Ok bytes
    with_fields at ms start (f ∷ fs) bytes =
        with_field at ms start f bytes >>= with_fields at ms start fs

    -- a struct whose object has these members
    abbrev pub with_members : ℕ → List MemberV → List StructField → ℕ → List ℕ → Bytes
    with_members at ms fs size bytes = each_known fs ms >>= λ _. each_once ms
        >>= λ _. with_fields at ms (length bytes) fs bytes
        >>= λ more. Ok (padded (length bytes) size more)

    abbrev pub with_struct_of : Struct → Adds
    with_struct_of s bytes json = wanted fault.WrongKind json.at (members_of json.value)
        >>= λ ms. with_members json.at ms s.fields.items s.size bytes

    abbrev pub with_struct_at : ℕ → Adds
    with_struct_at i bytes json = wanted fault.Unsupported json.at (struct_at declared i)
        >>= λ s. with_struct_of s bytes json

  -- a struct in which others nest to this depth
  unfoldable pub with_struct : ℕ → ℕ → Adds
  with_struct zero i bytes json = Err (fault.TooDeep, json.at)
  with_struct (suc depth) i bytes json = with_struct_at (with_struct depth) i bytes json

  abbrev pub with_plain : ℕ → Base → Adds
  with_plain depth = with_base (with_struct depth)
