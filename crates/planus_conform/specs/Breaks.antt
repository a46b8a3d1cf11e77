-- What breaks from one schema to another: the first change of each part.
use Rattle.std.specs.Prelude.{ℕ, ◌+◌, ◌==◌, ◌&&◌, ◌||◌, not, List, [], ◌∷◌, ◌++◌, Bool, true, false}
use Rattle.std.specs.Prelude.{Option, Some, None, Vec, if◌then◌else◌}
use Rattle.std.specs.List.{list_any}
use Rattle.std.specs.Str.{bytes_eq}
use Rattle.std.specs.declared.alloc.Global.{Global}
use Rattle.planus_schema.specs.declared.number.Number.{Number}
use Rattle.planus_schema.specs.declared.schema.Body.{Body}
use Rattle.planus_schema.specs.declared.schema.Body.TheVariants as body
use Rattle.planus_schema.specs.declared.schema.Declared.{Declared}
use Rattle.planus_schema.specs.declared.schema.Enum.{Enum}
use Rattle.planus_schema.specs.declared.schema.EnumValue.{EnumValue}
use Rattle.planus_schema.specs.declared.schema.Schema.{Schema}
use Rattle.planus_schema.specs.declared.schema.Struct.{Struct}
use Rattle.planus_schema.specs.declared.schema.StructField.{StructField}
use Rattle.planus_schema.specs.declared.schema.TableField.{TableField}
use Rattle.planus_schema.specs.declared.schema.Union.{Union}
use Rattle.planus_schema.specs.declared.schema.UnionMember.{UnionMember}
use Rattle.planus_conform.specs.declared.breaks.Break.{Break}
use Rattle.planus_conform.specs.declared.breaks.Change.{Change}
use Rattle.planus_conform.specs.declared.breaks.Change.TheVariants as change
use Rattle.planus_conform.specs.declared.breaks.Place.{Place}
use Rattle.planus_conform.specs.declared.breaks.Place.TheVariants as place
use Rattle.planus_conform.specs.declared.breaks.Way.{Way}
use Rattle.planus_conform.specs.declared.breaks.Way.TheVariants as way
use Rattle.planus_conform.specs.declared.rename.Rename.{Rename}
use Rattle.planus_conform.specs.Values.{body_at, member_in}
use Rattle.planus_conform.specs.Reads.{field_in, part_in}
use Rattle.planus_conform.specs.Matching.{match_at, matches_of}
use Rattle.planus_conform.specs.Types.{scalar_code, are_matched, same_base, same_part}
use Rattle.planus_conform.specs.Types.{same_truth, same_type}
use Rattle.planus_conform.specs.Defaults.{same_number, same_default}

-- ---- ways

-- data of the old schema's code is read by that of the new one, and the other way round
abbrev pub meets_old : Way → Bool
meets_old way.Both = true
meets_old way.Backward = true
meets_old way.Forward = false

abbrev pub meets_new : Way → Bool
meets_new way.Both = true
meets_new way.Backward = false
meets_new way.Forward = true

abbrev pub noted : Place → Option Change → List Break
noted p None = []
noted p (Some c) = record { change = c; place = p } ∷ []

abbrev pub change_if : Bool → Change → Option Change
change_if true c = Some c
change_if false c = None

-- ---- fields of tables

-- a field of this name has another slot
abbrev pub is_moved : List TableField → TableField → Bool
is_moved gs f =
    list_any (λ g. bytes_eq g.name.items f.name.items && not g.deprecated && not (g.slot == f.slot)) gs

-- no code fails for an absent field that the other reads
abbrev pub may_require : Way → Bool → Bool → Bool
may_require way.Both old new = same_truth old new
may_require way.Backward old new = old || not new
may_require way.Forward old new = new || not old

-- the buffer in a byte vector has the same root, if both schemas have one
abbrev pub same_nested : List (Option ℕ) → Option ℕ → Option ℕ → Bool
same_nested m (Some i) (Some j) = are_matched m i j
same_nested m a b = true

-- the first change of a field that both schemas' code reads
abbrev pub kept_change : Way → List (Option ℕ) → TableField → TableField → Option Change
kept_change w m f g =
    if not (same_type m f.kind g.kind) then Some change.TypeChanged
    else if not (may_require w f.required g.required) then Some change.RequiredChanged
    else if not (f.required || g.required || same_default f g) then Some change.DefaultChanged
    else change_if (not (same_nested m f.nested g.nested)) change.NestedChanged

-- The new field is that of the slot. Old code fails without a field that it requires.
abbrev pub change_from : Way → List (Option ℕ) → TableField → Option TableField → Option Change
change_from w m f None = Some change.FieldRemoved
change_from w m f (Some g) = if g.deprecated
    then change_if (f.required && meets_new w) change.RequiredDeprecated
    else kept_change w m f g

-- none for a deprecated field, which code doesn't read
abbrev pub field_change :
    Way → List (Option ℕ) → List TableField → TableField → Option Change
field_change w m gs f = if f.deprecated then None
    else if is_moved gs f then Some change.Moved
    else change_from w m f (field_in gs f.slot)

abbrev pub field_breaks :
    Way → List (Option ℕ) → ℕ → List TableField → List TableField → List Break
field_breaks w m n gs [] = []
field_breaks w m n gs (f ∷ fs) =
    noted (place.Field n f.slot) (field_change w m gs f) ++ field_breaks w m n gs fs

-- ---- structs

-- a field of this name has another distance
abbrev pub is_part_moved : List StructField → StructField → Bool
is_part_moved gs f =
    list_any (λ g. bytes_eq g.name.items f.name.items && not (g.distance == f.distance)) gs

abbrev pub part_change_to : List (Option ℕ) → StructField → Option StructField → Option Change
part_change_to m f None = Some change.FieldRemoved
part_change_to m f (Some g) = change_if (not (same_part m f g)) change.TypeChanged

abbrev pub part_change :
    List (Option ℕ) → List StructField → StructField → Option Change
part_change m gs f = if is_part_moved gs f then Some change.Moved
    else part_change_to m f (part_in gs f.distance)

abbrev pub part_breaks :
    List (Option ℕ) → ℕ → List StructField → List StructField → List Break
part_breaks m n gs [] = []
part_breaks m n gs (f ∷ fs) =
    noted (place.Part n f.distance) (part_change m gs f) ++ part_breaks m n gs fs

abbrev pub struct_breaks : List (Option ℕ) → ℕ → Struct → Struct → List Break
struct_breaks m n s t = part_breaks m n t.fields.items s.fields.items
    ++ noted (place.Declaration n) (change_if (not (s.size == t.size)) change.SizeChanged)

-- ---- enums

abbrev pub has_number : List EnumValue → Number → Bool
has_number vs n = list_any (λ v. same_number n v.number) vs

-- a value of this name has another number
abbrev pub is_value_moved : List EnumValue → EnumValue → Bool
is_value_moved us v =
    list_any (λ u. bytes_eq u.name.items v.name.items && not (same_number v.number u.number)) us

-- `met`: the new schema's code meets the old numbers, and has to know them
abbrev pub value_change : Bool → List EnumValue → EnumValue → Option Change
value_change met us v = if is_value_moved us v then Some change.Moved
    else change_if (met && not (has_number us v.number)) change.ValueRemoved

abbrev pub value_breaks : Bool → ℕ → List EnumValue → List EnumValue → List Break
value_breaks met n us [] = []
value_breaks met n us (v ∷ vs) =
    noted (place.Value n v.number) (value_change met us v) ++ value_breaks met n us vs

-- `met`: the old schema's code meets the new numbers
abbrev pub added_values : Bool → ℕ → List EnumValue → List EnumValue → List Break
added_values met n vs [] = []
added_values met n vs (u ∷ us) =
    noted (place.Value n u.number)
    (change_if (met && not (has_number vs u.number)) change.ValueAdded)
    ++ added_values met n vs us

abbrev pub enum_change : Enum → Enum → Option Change
enum_change e g =
    if not (scalar_code e.scalar == scalar_code g.scalar) then Some change.NumberTypeChanged
    else change_if (not (same_truth e.flags g.flags)) change.FlagsChanged

-- any number is a set of flags
abbrev pub enum_breaks : Way → ℕ → Enum → Enum → List Break
enum_breaks w n e g = noted (place.Declaration n) (enum_change e g)
    ++ value_breaks (meets_old w && not e.flags) n g.values.items e.values.items
    ++ added_values (meets_new w && not e.flags) n e.values.items g.values.items

-- ---- unions

-- a member of this name has another tag
abbrev pub is_member_moved : List UnionMember → UnionMember → Bool
is_member_moved bs a =
    list_any (λ b. bytes_eq b.name.items a.name.items && not (b.tag == a.tag)) bs

abbrev pub member_change_to :
    Bool → List (Option ℕ) → UnionMember → Option UnionMember → Option Change
member_change_to met m a None = change_if met change.MemberRemoved
member_change_to met m a (Some b) =
    change_if (not (same_base m a.base b.base)) change.MemberChanged

abbrev pub member_change :
    Bool → List (Option ℕ) → List UnionMember → UnionMember → Option Change
member_change met m bs a = if is_member_moved bs a then Some change.Moved
    else member_change_to met m a (member_in bs a.tag)

abbrev pub member_breaks :
    Bool → List (Option ℕ) → ℕ → List UnionMember → List UnionMember → List Break
member_breaks met m n bs [] = []
member_breaks met m n bs (a ∷ rest) =
    noted (place.Member n a.tag) (member_change met m bs a) ++ member_breaks met m n bs rest

abbrev pub is_member : Option UnionMember → Bool
is_member None = false
is_member (Some a) = true

abbrev pub added_members : Bool → ℕ → List UnionMember → List UnionMember → List Break
added_members met n old [] = []
added_members met n old (b ∷ bs) =
    noted (place.Member n b.tag)
    (change_if (met && not (is_member (member_in old b.tag))) change.MemberAdded)
    ++ added_members met n old bs

abbrev pub union_breaks : Way → List (Option ℕ) → ℕ → Union → Union → List Break
union_breaks w m n u v =
    member_breaks (meets_old w) m n v.members.items u.members.items
    ++ added_members (meets_new w) n u.members.items v.members.items

-- ---- declarations

-- of two declarations that belong together
abbrev pub breaks_to : Way → List (Option ℕ) → ℕ → Body → Body → List Break
breaks_to w m n (body.Table t) (body.Table u) = field_breaks w m n u.fields.items t.fields.items
breaks_to w m n (body.Struct s) (body.Struct t) = struct_breaks m n s t
breaks_to w m n (body.Enum e) (body.Enum g) = enum_breaks w n e g
breaks_to w m n (body.Union u) (body.Union v) = union_breaks w m n u v
breaks_to w m n b c = noted (place.Declaration n) (Some change.OtherKind)

abbrev pub body_breaks : Way → List (Option ℕ) → ℕ → Body → Option Body → List Break
body_breaks w m n b None = noted (place.Declaration n) (Some change.Removed)
body_breaks w m n b (Some c) = breaks_to w m n b c

abbrev pub body_if : List Declared → Option ℕ → Option Body
body_if ds None = None
body_if ds (Some j) = body_at ds j

abbrev pub declared_breaks : Way → List (Option ℕ) → List Declared → ℕ → Declared → List Break
declared_breaks w m new n d = body_breaks w m n d.body (body_if new (match_at m n))

abbrev pub breaks_from : Way → List (Option ℕ) → List Declared → ℕ → List Declared → List Break
breaks_from w m new n [] = []
breaks_from w m new n (d ∷ ds) = declared_breaks w m new n d ++ breaks_from w m new (n + 1) ds

-- ---- schemas

abbrev pub root_change : List (Option ℕ) → Option ℕ → Option ℕ → Option Change
root_change m None o = None
root_change m (Some i) None = Some change.RootChanged
root_change m (Some i) (Some j) = change_if (not (are_matched m i j)) change.RootChanged

abbrev pub identifier_change :
    Way → Option (Vec ℕ Global) → Option (Vec ℕ Global) → Option Change
identifier_change w None None = None
identifier_change w None (Some b) = change_if (meets_old w) change.IdentifierAdded
identifier_change w (Some a) None = change_if (meets_new w) change.IdentifierRemoved
identifier_change w (Some a) (Some b) =
    change_if (not (bytes_eq a.items b.items)) change.IdentifierChanged

abbrev pub breaks_by : Way → List (Option ℕ) → Schema → Schema → List Break
breaks_by w m old new =
    breaks_from w m new.declarations.items 0 old.declarations.items
    ++ noted place.Root (root_change m old.statements.root new.statements.root)
    ++ noted place.Identifier
    (identifier_change w old.statements.identifier new.statements.identifier)

abbrev pub breaks_of : Way → List Rename → Schema → Schema → List Break
breaks_of w rs old new =
    breaks_by w (matches_of rs old.declarations.items new.declarations.items) old new
