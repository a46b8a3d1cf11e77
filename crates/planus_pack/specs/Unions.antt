-- The types of unions.
use Rattle.std.specs.Prelude.{ℕ, ◌-◌, Bool, if◌then◌else◌, List, Option, Some, None}
use Rattle.std.specs.Prelude.{Result, Ok, Err}
use Rattle.std.specs.Option.{is_some}
use Rattle.planus.specs.Steps.{number_field, tags_field, values_field}
use Rattle.planus_schema.specs.declared.schema.Base.{Base}
use Rattle.planus_schema.specs.declared.schema.Base.TheVariants as base
use Rattle.planus_schema.specs.declared.schema.Declared.{Declared}
use Rattle.planus_schema.specs.declared.schema.FieldType.{FieldType}
use Rattle.planus_schema.specs.declared.schema.TableField.{TableField}
use Rattle.planus_schema.specs.declared.schema.Union.{Union}
use Rattle.planus_schema.specs.declared.schema.UnionMember.{UnionMember}
use Rattle.planus_json_syntax.specs.Values.{JsonV, MemberV}
use Rattle.planus_pack.specs.declared.pack_fault.PackFault.TheVariants as fault
use Rattle.planus_pack.specs.Faults.{Fault, ◌>>=◌, wanted}
use Rattle.planus_pack.specs.Fields.{FieldV, with_slot}
use Rattle.planus_pack.specs.Lookup.{union_at, is_no_member, member_called}
use Rattle.planus_pack.specs.Parts.{ObjectV, word_of, is_null, given, stands_again}

abbrev pub called : ℕ → List UnionMember → List ℕ → Result (Option UnionMember) Fault
called at ms w = if is_no_member w then Ok None
    else wanted fault.UnknownName at (member_called w ms) >>= λ m. Ok (Some m)

-- the member that a union's type names, if any
abbrev pub chosen : Union → JsonV → Result (Option UnionMember) Fault
chosen u json = wanted fault.UnknownName json.at (word_of json.value)
    >>= called json.at u.members.items

abbrev pub union_index : Base → Option ℕ
union_index (base.Scalar s) = None
union_index base.Text = None
union_index (base.Enum i) = None
union_index (base.Struct i) = None
union_index (base.Table i) = None
union_index (base.Union i) = Some i

abbrev pub gives : List ℕ → ObjectV → Bool
gives name o = is_some (given name o.members)

-- The type of a union `f`, whose key is at `at`; the object has to give a value for it.
abbrev pub type_slot : ObjectV → ℕ → TableField → List FieldV → Option UnionMember
    → Result (List FieldV) Fault
type_slot o at f fields None = Ok fields
type_slot o at f fields (Some m) =
    if gives f.name.items o then with_slot at (f.slot - 1) (number_field 1 m.tag) fields
    else Err (fault.LoneUnion, o.at)

-- the types of a vector of unions, which are written where its values are
abbrev pub types_beside : ObjectV → TableField → List FieldV → Result (List FieldV) Fault
types_beside o f fields =
    if gives f.name.items o then Ok fields else Err (fault.LoneUnion, o.at)

-- both parts of a vector of unions
abbrev pub with_unions : ℕ → ℕ → ℕ → List FieldV → Result (List FieldV) Fault
with_unions at slot number fields = with_slot at (slot - 1) (tags_field number) fields
    >>= with_slot at slot (values_field number)

abbrev pub union_or : List Declared → Option ℕ → Option Union
union_or declared None = None
union_or declared (Some i) = union_at declared i

-- the union of a field, or of its vector
abbrev pub union_in : List Declared → FieldType → Option Union
union_in declared kind = union_or declared (union_index kind.base)

module _ (declared : List Declared) where
  -- the type of a union, or those of a vector of them
  abbrev pub type_of : ObjectV → List FieldV → MemberV → TableField → Result (List FieldV) Fault
  type_of o fields m f = if f.kind.vector then types_beside o f fields
      else wanted fault.Unsupported m.value.at (union_in declared f.kind)
      >>= λ u. chosen u m.value >>= type_slot o m.at f fields

  -- a member whose key is that of the type of a union `f`
  abbrev pub with_type : ObjectV → List FieldV → MemberV → TableField → Result (List FieldV) Fault
  with_type o fields m f = if is_null m.value.value then Ok fields
      else if stands_again m o.members then Err (fault.GivenTwice, m.at)
      else type_of o fields m f
