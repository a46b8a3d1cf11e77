-- The schema as a value, by which buffers are verified.
use Rattle.std.specs.Prelude.{◌≡◌, ℕ, ◌+◌, Bool, true, ◌==◌, ◌&&◌, not, List, [], ◌∷◌, ◌++◌}
use Rattle.std.specs.Prelude.{map, count_by, length, codes, decimal, Option, Some, None}
use Rattle.std.specs.Prelude.{if◌then◌else◌}
use Rattle.std.specs.List.{flat_map}
use Rattle.std.specs.List.Sorted.{IsPermutation, IsNonDecreasingBy}
use Rattle.planus_schema.specs.Layouts.{measure_in, body_in}
use Rattle.planus_schema.specs.declared.measure.Measure.{Measure}
use Rattle.planus_schema.specs.declared.schema.Base.{Base}
use Rattle.planus_schema.specs.declared.schema.Base.TheVariants as base
use Rattle.planus_schema.specs.declared.schema.Body.{Body}
use Rattle.planus_schema.specs.declared.schema.Body.TheVariants as body
use Rattle.planus_schema.specs.declared.schema.Declared.{Declared}
use Rattle.planus_schema.specs.declared.schema.Table.{Table}
use Rattle.planus_schema.specs.declared.schema.TableField.{TableField}
use Rattle.planus_schema.specs.declared.schema.UnionMember.{UnionMember}
use Rattle.planus_schema.specs.Plans.{LineV, line_of, IsPlan}
use Rattle.planus_schema.specs.declared.plan.Line.{Line}
use Rattle.planus_schema.specs.declared.plan.Plan.{Plan}
use Rattle.planus_tie.specs.Ranks.{rank_in}
use Rattle.planus_tie.specs.Reading.{after, begins, body_of}
use Rattle.planus_tie.specs.Wanted.{is_bytes, read_slot}
use Rattle.planus_tie.specs.declared.shapes.Range.{Range}
use Rattle.planus_tie.specs.declared.shapes.MemberType.{MemberType}
use Rattle.planus_tie.specs.declared.shapes.MemberType.TheVariants as member
use Rattle.planus_tie.specs.declared.shapes.Tagged.{Tagged}

-- the lists

-- the fields of a table that aren't deprecated, by their slots
pub record AreBySlot (ds : List Declared) (i : ℕ) (one : Table) (ls : List Line) : Type 0 where
  pub plan : Plan
  pub planned : IsPlan ds i one.fields.items plan
  pub once : IsPermutation plan.lines.items ls
  pub rises : IsNonDecreasingBy (λ l. l.field.now.slot) ls

abbrev pub BodyLines : List Declared → ℕ → Body → List Line → Type 0
BodyLines ds i (body.Table one) ls = AreBySlot ds i one ls
BodyLines ds i b ls = ls ≡ []

-- of each declaration from an index on, in turn
abbrev pub AreLines : List Declared → ℕ → List Declared → List Line → Type 0
AreLines all i [] ls = ls ≡ []
AreLines all i (d ∷ ds) ls = (mine : List Line) × ((rest : List Line)
    × (BodyLines all i d.body mine × AreLines all (i + 1) ds rest × (ls ≡ mine ++ rest)))

-- a declaration's fields are added to a list
abbrev pub PushesLines : List Declared → ℕ → Body → List Line → List Line → Type 0
PushesLines all i b old new = (mine : List Line) × (BodyLines all i b mine × (new ≡ old ++ mine))

abbrev pub live_count : Table → ℕ
live_count one = count_by (λ f. not f.deprecated) one.fields.items

-- of a table the place of its first field in the list of all, and how many it has
abbrev pub ranges_in : ℕ → Body → List Range
ranges_in first (body.Table one) = record { first = first; count = live_count one } ∷ []
ranges_in first b = []

abbrev pub fields_in : Body → ℕ
fields_in (body.Table one) = live_count one
fields_in b = 0

abbrev pub ranges_from : ℕ → List Declared → List Range
ranges_from first [] = []
ranges_from first (d ∷ ds) =
    ranges_in first d.body ++ ranges_from (first + fields_in d.body) ds

abbrev pub size_or_0 : Option Measure → ℕ
size_or_0 None = 0
size_or_0 (Some m) = m.size

-- in bytes
abbrev pub size_of : List Declared → Base → ℕ
size_of ds b = size_or_0 (measure_in (map body_in ds) b)

-- a table by its index, a struct by its size, or a string
abbrev pub member_type : List Declared → List ℕ → Base → MemberType
member_type ds ranks (base.Table i) = member.Table (rank_in ranks i)
member_type ds ranks (base.Struct i) = member.Struct (size_of ds (base.Struct i))
member_type ds ranks b = member.Text

-- of a union's member the union's index, its tag, and its type
abbrev pub tagged : List Declared → List ℕ → ℕ → UnionMember → Tagged
tagged ds ranks i m =
    record { union = rank_in ranks i; tag = m.tag; kind = member_type ds ranks m.base }

abbrev pub tagged_in : List Declared → List ℕ → ℕ → Body → List Tagged
tagged_in all ranks i (body.Union one) = map (tagged all ranks i) one.members.items
tagged_in all ranks i b = []

-- of the unions of all declarations, from the i-th on
abbrev pub tagged_from : List Declared → List ℕ → ℕ → List Declared → List Tagged
tagged_from all ranks i [] = []
tagged_from all ranks i (d ∷ ds) =
    tagged_in all ranks i d.body ++ tagged_from all ranks (i + 1) ds

-- their texts

abbrev pub numbered : List ℕ → ℕ → List ℕ
numbered name number = name ++ (codes "(" ++ (decimal number ++ codes ")"))

abbrev pub plural : List ℕ → Bool → List ℕ
plural name vector = name ++ (if vector then codes "s" else [])

abbrev pub value_kind : List ℕ → List ℕ
value_kind kind = codes "Value(ValueKind::" ++ (kind ++ codes ")")

-- a table's or a union's index, or the size of a value in bytes
abbrev pub base_kind : List Declared → List ℕ → Base → Bool → List ℕ
base_kind ds ranks base.Text vector = value_kind (plural (codes "Text") vector)
base_kind ds ranks (base.Table i) vector =
    value_kind (numbered (plural (codes "Table") vector) (rank_in ranks i))
base_kind ds ranks (base.Union i) vector =
    numbered (plural (codes "Union") vector) (rank_in ranks i)
base_kind ds ranks b vector = value_kind (numbered (plural (codes "Plain") vector) (size_of ds b))

-- bytes, or a buffer with this root
abbrev pub bytes_kind : List ℕ → Option ℕ → List ℕ
bytes_kind ranks None = value_kind (codes "Bytes")
bytes_kind ranks (Some root) = value_kind (numbered (codes "Nested") (rank_in ranks root))

abbrev pub field_kind : List Declared → List ℕ → TableField → List ℕ
field_kind ds ranks f = if is_bytes f.kind then bytes_kind ranks f.nested
    else base_kind ds ranks f.kind.base f.kind.vector

abbrev pub required_text : Bool → List ℕ
required_text required = if required then codes "true" else codes "false"

abbrev pub slot_text : ℕ → List ℕ
slot_text slot = codes "FieldShape{slot:" ++ decimal slot

abbrev pub field_start : TableField → List ℕ
field_start f = slot_text (read_slot f) ++ (codes ",required:" ++ required_text f.required)

-- with what follows an entry
abbrev pub field_text : List Declared → List ℕ → List ℕ → LineV → List ℕ
field_text ds ranks comma l = field_start l.field ++ (codes ",kind:FieldKind::"
    ++ (field_kind ds ranks l.field ++ (codes "}" ++ comma)))

abbrev pub field_texts : List Declared → List ℕ → List ℕ → List Line → List ℕ
field_texts ds ranks comma ls = flat_map (λ l. field_text ds ranks comma (line_of l)) ls

abbrev pub range_start : ℕ → List ℕ
range_start first = codes "TableShape{first:" ++ decimal first

abbrev pub range_text : List ℕ → Range → List ℕ
range_text comma r = range_start r.first ++ (codes ",count:"
    ++ (decimal r.count ++ (codes "}" ++ comma)))

abbrev pub member_text : MemberType → List ℕ
member_text (member.Table i) = numbered (codes "Table") i
member_text (member.Struct size) = numbered (codes "Struct") size
member_text member.Text = codes "Text"

abbrev pub tagged_text : List ℕ → Tagged → List ℕ
tagged_text comma t = codes "Variant{union:" ++ (decimal t.union ++ (codes ",tag:"
    ++ (decimal t.tag ++ (codes ",kind:VariantKind::" ++ (member_text t.kind
    ++ (codes "}" ++ comma))))))

-- the only entry of a list has no comma after it
abbrev pub comma_of : ℕ → List ℕ
comma_of count = if count == 1 then [] else codes ","

-- how many there are, and their texts
abbrev pub list_text : ℕ → List ℕ → List ℕ
list_text count entries = decimal count ++ (codes "]=[" ++ (entries ++ codes "];"))

abbrev pub fields_list : List Declared → List ℕ → List Line → List ℕ
fields_list ds ranks ls =
    list_text (length ls) (field_texts ds ranks (comma_of (length ls)) ls)

abbrev pub ranges_list : List Range → List ℕ
ranges_list rs = list_text (length rs) (flat_map (range_text (comma_of (length rs))) rs)

abbrev pub tagged_list : List Tagged → List ℕ
tagged_list ts = list_text (length ts) (flat_map (tagged_text (comma_of (length ts))) ts)

-- each list stands at the first place of its name

abbrev pub has_fields : List Declared → List ℕ → List Line → List ℕ → Bool
has_fields ds ranks ls text =
    begins (after (codes "pub const FIELDS:[FieldShape;") text) (fields_list ds ranks ls)

abbrev pub has_ranges : List Declared → List ℕ → Bool
has_ranges ds text = begins (after (codes "pub const TABLES:[TableShape;") text)
    (ranges_list (ranges_from 0 ds))

abbrev pub has_tagged : List Declared → List ℕ → List ℕ → Bool
has_tagged ds ranks text = begins (after (codes "pub const VARIANTS:[Variant;") text)
    (tagged_list (tagged_from ds ranks 0 ds))

-- the schema has these lists
abbrev pub has_schema : List ℕ → Bool
has_schema text = begins (body_of (codes "fn schema()->") text)
    (codes "Schema{fields:&FIELDS,tables:&TABLES,variants:&VARIANTS}}")
