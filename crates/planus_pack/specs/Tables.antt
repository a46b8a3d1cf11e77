-- The steps that a value means, after those so far.
use Rattle.std.specs.Prelude.{ℕ, zero, suc, ◌==◌, Bool, true, false, ◌&&◌, ◌||◌, nat_le}
use Rattle.std.specs.Prelude.{if◌then◌else◌, List, [], ◌∷◌, ◌++◌, length, map, codes}
use Rattle.std.specs.Prelude.{Option, Some, None, Result, Ok, Err}
use Rattle.std.specs.Option.{is_some}
use Rattle.std.specs.Str.{bytes_eq}
use Rattle.planus.specs.Steps.{Step, text, bytes, refs, unions, struct, plains, table, FieldStep}
use Rattle.planus.specs.Steps.{struct_field, ref_field}
use Rattle.planus_schema.specs.declared.measure.Measure.{Measure}
use Rattle.planus_schema.specs.declared.schema.Base.{Base}
use Rattle.planus_schema.specs.declared.schema.Base.TheVariants as base
use Rattle.planus_schema.specs.declared.schema.Declared.{Declared}
use Rattle.planus_schema.specs.declared.schema.Schema.{Schema}
use Rattle.planus_schema.specs.declared.schema.FieldType.{FieldType}
use Rattle.planus_schema.specs.declared.schema.Table.{Table}
use Rattle.planus_schema.specs.declared.schema.TableField.{TableField}
use Rattle.planus_schema.specs.declared.schema.Union.{Union}
use Rattle.planus_schema.specs.declared.schema.UnionMember.{UnionMember}
use Rattle.planus_schema.specs.Layouts.{measure_in, body_in}
use Rattle.planus_schema.specs.Slots.{is_union}
use Rattle.planus_json_syntax.specs.Values.{JsonV, MemberV, ValueV}
use Rattle.planus_pack.specs.declared.pack_fault.PackFault.TheVariants as fault
use Rattle.planus_pack.specs.declared.pack_options.PackOptions.{PackOptions}
use Rattle.planus_pack.specs.Defaults.{is_default}
use Rattle.planus_pack.specs.Faults.{Fault, ◌>>=◌, wanted}
use Rattle.planus_pack.specs.Fields.{FieldV, with_slot, complete}
use Rattle.planus_pack.specs.Keys.{in_key_order}
use Rattle.planus_pack.specs.Lookup.{table_at, field_named, union_typed, type_given}
use Rattle.planus_pack.specs.Parts.{ObjectV, text_of, items_of, members_of, is_null, stands_again}
use Rattle.planus_pack.specs.Plain.{with_plain, with_each}
use Rattle.planus_pack.specs.Rules.{RulesV}
use Rattle.planus_pack.specs.Unions.{chosen, union_in, with_type, with_unions}

-- the steps so far and those of a value, and something of it
abbrev pub Put : Type 0 → Type 0
Put A = Result (List Step × A) Fault

-- what a value puts after the steps so far: itself last, whose number is returned
abbrev pub Puts : Type 0
Puts = List Step → JsonV → Put ℕ

abbrev pub put : List Step → Step → Put ℕ
put steps step = Ok (steps ++ step ∷ [], length steps)

-- ---- values

abbrev pub is_plain : Base → Bool
is_plain (base.Scalar s) = true
is_plain base.Text = false
is_plain (base.Enum i) = true
is_plain (base.Struct i) = true
is_plain (base.Table i) = false
is_plain (base.Union i) = false

-- how structs and fixed values nest
abbrev pub most_depth : ℕ
most_depth = 64

-- the size and alignment of a fixed value, which is at most 16
abbrev pub within : ℕ → Measure → Result Measure Fault
within at m = if nat_le m.alignment 16 then Ok m else Err (fault.Unsupported, at)

-- the items of a vector, of which each has one byte, or more
abbrev pub plain_step : Measure → List ℕ → Step
plain_step m content = if m.size == 1 then bytes content else plains m.alignment m.size content

abbrev pub put_text : Puts
put_text steps json =
    wanted fault.WrongKind json.at (text_of json.value) >>= λ w. put steps (text w)

-- a buffer in a field, by an object
abbrev pub is_nested : TableField → ValueV → Bool
is_nested f value = is_some f.nested && is_some (members_of value)

module _ (declared : List Declared) where
  abbrev pub measured : ℕ → Base → Result Measure Fault
  measured at b = wanted fault.Unsupported at (measure_in (map body_in declared) b) >>= within at

  -- an alignment, and the bytes
  abbrev pub plain_value : Base → JsonV → Result (ℕ × List ℕ) Fault
  plain_value b json = measured json.at b
      >>= λ m. with_plain declared most_depth b [] json >>= λ content. Ok (m.alignment, content)

  abbrev pub plain_items : Base → ℕ → List JsonV → Result Step Fault
  plain_items b at js = measured at b
      >>= λ m. with_each (with_plain declared most_depth b) [] js
      >>= λ content. Ok (plain_step m content)

  abbrev pub put_struct : Base → Puts
  put_struct b steps json = plain_value b json >>= λ x. put steps (struct x.0 x.1)

-- a key that is skipped where no field has it
abbrev pub is_skipped : PackOptions → List ℕ → Bool
is_skipped options key = options.skip_unknown || bytes_eq key (codes "$schema")

module _ (by : RulesV) where
  -- a member whose key is no field's name
  abbrev pub other_member : ObjectV → List FieldV → MemberV → Option TableField
      → Result (List FieldV) Fault
  other_member o fields m None =
      if is_skipped by.options m.key then Ok fields else Err (fault.UnknownKey, m.at)
  other_member o fields m (Some f) = with_type by.declared o fields m f

  -- whether a field is left out, as its absence reads the same
  abbrev pub is_omitted : TableField → FieldStep → Bool
  is_omitted f value = by.options.omit_defaults && is_default by.declared f value

  abbrev pub slotted : ℕ → TableField → FieldStep → List FieldV → Result (List FieldV) Fault
  slotted at f value fields =
      if is_omitted f value then Ok fields else with_slot at f.slot value fields

  module _ (tables : ℕ → Puts) where
    -- a value that is referred to
    abbrev pub refer : Base → Puts
    refer (base.Scalar s) steps json = Err (fault.Unsupported, json.at)
    refer base.Text steps json = put_text steps json
    refer (base.Enum i) steps json = Err (fault.Unsupported, json.at)
    refer (base.Struct i) steps json = put_struct by.declared (base.Struct i) steps json
    refer (base.Table i) steps json = tables i steps json
    refer (base.Union i) steps json = Err (fault.Unsupported, json.at)

    -- the values that are referred to, and their numbers after those found
    abbrev pub refer_each : Base → List Step → List ℕ → List JsonV → Put (List ℕ)
    refer_each b steps found [] = Ok (steps, found)
    refer_each b steps found (j ∷ js) =
        refer b steps j >>= λ x. refer_each b x.0 (found ++ x.1 ∷ []) js

    -- the items of a vector
    abbrev pub vector_items : Base → ℕ → List Step → List JsonV → Put ℕ
    vector_items b at steps js =
        if is_plain b then plain_items by.declared b at js >>= put steps
        else refer_each b steps [] js
        >>= λ x. put x.0 (refs (in_key_order by.declared b x.0 x.1))

    abbrev pub vector : Base → Puts
    vector b steps json = wanted fault.WrongKind json.at (items_of json.value)
        >>= vector_items b json.at steps

    abbrev pub reference : List Step × ℕ → Put FieldStep
    reference x = Ok (x.0, ref_field x.1)

    -- what a field holds that is no union
    abbrev pub content : FieldType → List Step → JsonV → Put FieldStep
    content kind steps json =
        if kind.vector then vector kind.base steps json >>= reference
        else if is_plain kind.base
        then plain_value by.declared kind.base json
        >>= (λ x. Ok (steps, struct_field x.0 x.1))
        else refer kind.base steps json >>= reference

    -- ---- unions

    -- the value of a union whose member was named
    abbrev pub of_member : ℕ → List Step → JsonV → Option UnionMember → Put FieldStep
    of_member at steps json None = Err (fault.LoneUnion, at)
    of_member at steps json (Some m) = refer m.base steps json >>= reference

    abbrev pub union_value : ObjectV → TableField → Union → List Step → JsonV → Put FieldStep
    union_value o f u steps json =
        wanted fault.LoneUnion o.at (type_given f.name.items o.members)
        >>= chosen u >>= of_member o.at steps json

    -- an item of a vector of unions: its tag, and the number of its value
    abbrev pub union_item : Union → List Step → JsonV → JsonV → Put (ℕ × ℕ)
    union_item u steps type json = chosen u type >>= wanted fault.Unsupported type.at
        >>= λ m. refer m.base steps json >>= λ x. Ok (x.0, (m.tag, x.1))

    -- the items by their types, of which there are as many, after those found
    abbrev pub union_items : Union → List Step → List (ℕ × ℕ) → List JsonV → List JsonV
        → Put (List (ℕ × ℕ))
    union_items u steps found [] js = Ok (steps, found)
    union_items u steps found (t ∷ ts) [] = Ok (steps, found)
    union_items u steps found (t ∷ ts) (j ∷ js) = union_item u steps t j
        >>= λ x. union_items u x.0 (found ++ x.1 ∷ []) ts js

    abbrev pub unions_of : Union → ℕ → List Step → List JsonV → List JsonV → Put ℕ
    unions_of u at steps ts js = if length ts == length js
        then union_items u steps [] ts js >>= (λ x. put x.0 (unions x.1))
        else Err (fault.WrongLength, at)

    abbrev pub union_vector : ObjectV → TableField → Union → Puts
    union_vector o f u steps json =
        wanted fault.LoneUnion o.at (type_given f.name.items o.members)
        >>= λ types. wanted fault.WrongKind types.at (items_of types.value)
        >>= λ ts. wanted fault.WrongKind json.at (items_of json.value)
        >>= unions_of u json.at steps ts

    -- ---- members

    -- what a field holds
    abbrev pub field_value : ObjectV → TableField → List Step → JsonV → Put FieldStep
    field_value o f steps json =
        if is_nested f json.value then Err (fault.Unsupported, json.at)
        else if is_union f.kind
        then wanted fault.Unsupported json.at (union_in by.declared f.kind)
        >>= (λ u. union_value o f u steps json)
        else content f.kind steps json

    -- the steps so far, and the fields
    abbrev pub Fields : Type 0
    Fields = Put (List FieldV)

    abbrev pub beside : List Step → List FieldV → Fields
    beside steps fields = Ok (steps, fields)

    abbrev pub with_field : ℕ → TableField → List FieldV → List Step × FieldStep → Fields
    with_field at f fields x = slotted at f x.1 fields >>= beside x.0

    abbrev pub with_vector : ℕ → TableField → List FieldV → List Step × ℕ → Fields
    with_vector at f fields x = with_unions at f.slot x.1 fields >>= beside x.0

    -- a vector of unions
    abbrev pub unions_member : ObjectV → List Step → List FieldV → MemberV → TableField → Fields
    unions_member o steps fields m f =
        wanted fault.Unsupported m.value.at (union_in by.declared f.kind)
        >>= (λ u. union_vector o f u steps m.value) >>= with_vector m.at f fields

    -- a member that gives a field `f`
    abbrev pub given_value : ObjectV → List Step → List FieldV → MemberV → TableField → Fields
    given_value o steps fields m f =
        if is_union f.kind && f.kind.vector then unions_member o steps fields m f
        else field_value o f steps m.value >>= with_field m.at f fields

    -- a member whose key is the name of a field `f`; `null` is as if absent
    abbrev pub with_value : ObjectV → List Step → List FieldV → MemberV → TableField → Fields
    with_value o steps fields m f = if is_null m.value.value then Ok (steps, fields)
        else if stands_again m o.members then Err (fault.GivenTwice, m.at)
        else given_value o steps fields m f

    abbrev pub member_step : ObjectV → List TableField → List Step → List FieldV → MemberV
        → Option TableField → Fields
    member_step o fs steps fields m (Some f) = with_value o steps fields m f
    member_step o fs steps fields m None =
        other_member o fields m (union_typed m.key fs) >>= beside steps

    abbrev pub with_member : ObjectV → List TableField → List Step → List FieldV → MemberV
        → Fields
    with_member o fs steps fields m = member_step o fs steps fields m (field_named m.key fs)

    -- the members of an object in the order of the text
    abbrev pub with_members : ObjectV → List TableField → List Step → List FieldV → List MemberV
        → Fields
    with_members o fs steps fields [] = Ok (steps, fields)
    with_members o fs steps fields (m ∷ rest) = with_member o fs steps fields m
        >>= λ x. with_members o fs x.0 x.1 rest

    -- ---- tables

    -- the table itself comes after its children
    abbrev pub closed : ℕ → List TableField → List Step × List FieldV → Put ℕ
    closed at fs x = complete at x.1 fs >>= λ _. put x.0 (table x.1)

    -- the members, then what is missing
    abbrev pub of_members : List TableField → List Step → ObjectV → Put ℕ
    of_members fs steps o = with_members o fs steps [] o.members >>= closed o.at fs

    abbrev pub table_of : Table → Puts
    table_of t steps json = wanted fault.WrongKind json.at (members_of json.value)
        >>= λ ms. of_members t.fields.items steps (record { at = json.at; members = ms })

    abbrev pub table_in : ℕ → Puts
    table_in i steps json = wanted fault.Unsupported json.at (table_at by.declared i)
        >>= λ t. table_of t steps json

  -- a table, of which tables are children to this depth
  unfoldable pub with_table : ℕ → ℕ → Puts
  with_table zero i steps json = Err (fault.TooDeep, json.at)
  with_table (suc depth) i steps json = table_in (with_table depth) i steps json

abbrev pub rules : Schema → PackOptions → RulesV
rules schema options = record { declared = schema.declarations.items; options = options }

-- the steps by which a value is written as the table of this index, which is the last
abbrev pub steps_of : RulesV → ℕ → JsonV → Result (List Step) Fault
steps_of rules root json = with_table rules 64 root [] json >>= λ x. Ok x.0
