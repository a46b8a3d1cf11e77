-- The words of schemas that a break is about: a declaration, or a part of one.
use Rattle.std.specs.Prelude.{ℕ, ◌==◌, Bool, true, false, List, []}
use Rattle.std.specs.Prelude.{position, slice_get, Option, Some, None}
use Rattle.std.specs.Option.{option_map, option_or, unwrap_or}
use Rattle.std.specs.Str.{bytes_eq}
use Rattle.planus_schema.specs.declared.schema.Body.{Body}
use Rattle.planus_schema.specs.declared.schema.Body.TheVariants as body
use Rattle.planus_schema.specs.declared.schema.Declared.{Declared}
use Rattle.planus_schema.specs.declared.schema.Schema.{Schema}
use Rattle.planus_schema.specs.declared.number.Number.{Number}
use Rattle.planus_schema.specs.declared.schema.EnumValue.{EnumValue}
use Rattle.planus_schema.specs.declared.schema.StructField.{StructField}
use Rattle.planus_schema.specs.declared.schema.TableField.{TableField}
use Rattle.planus_schema.specs.declared.schema.UnionMember.{UnionMember}
use Rattle.planus_conform.specs.declared.breaks.Break.{Break}
use Rattle.planus_conform.specs.declared.breaks.Change.{Change}
use Rattle.planus_conform.specs.declared.breaks.Change.TheVariants as change
use Rattle.planus_conform.specs.declared.breaks.Place.{Place}
use Rattle.planus_conform.specs.declared.breaks.Place.TheVariants as place
use Rattle.planus_conform.specs.declared.rename.Rename.{Rename}
use Rattle.planus_conform.specs.Breaks.{body_if}
use Rattle.planus_conform.specs.Defaults.{same_number}
use Rattle.planus_conform.specs.Matching.{named, renamed}
use Rattle.planus_cli.specs.declared.parts.Word.{Word}

abbrev pub has_slot : ℕ → TableField → Bool
has_slot n f = f.slot == n

abbrev pub has_distance : ℕ → StructField → Bool
has_distance n f = f.distance == n

abbrev pub has_number : Number → EnumValue → Bool
has_number n v = same_number v.number n

abbrev pub has_tag : ℕ → UnionMember → Bool
has_tag n m = m.tag == n

-- the part of a declaration that has this place: its index
abbrev pub part_at : Body → Place → Option ℕ
part_at (body.Table t) (place.Field n slot) = position (has_slot slot) t.fields.items
part_at (body.Struct s) (place.Part n distance) = position (has_distance distance) s.fields.items
part_at (body.Enum e) (place.Value n number) = position (has_number number) e.values.items
part_at (body.Union u) (place.Member n tag) = position (has_tag tag) u.members.items
part_at b p = None

abbrev pub is_field : List ℕ → TableField → Bool
is_field name f = bytes_eq f.name.items name

abbrev pub is_part : List ℕ → StructField → Bool
is_part name f = bytes_eq f.name.items name

abbrev pub is_value : List ℕ → EnumValue → Bool
is_value name v = bytes_eq v.name.items name

abbrev pub is_member : List ℕ → UnionMember → Bool
is_member name m = bytes_eq m.name.items name

-- the part that has this name
abbrev pub part_named : Body → List ℕ → Option ℕ
part_named (body.Table t) name = position (is_field name) t.fields.items
part_named (body.Struct s) name = position (is_part name) s.fields.items
part_named (body.Enum e) name = position (is_value name) e.values.items
part_named (body.Union u) name = position (is_member name) u.members.items

-- the name of the part of this index
abbrev pub part_name : Body → ℕ → Option (List ℕ)
part_name (body.Table t) k = option_map (λ f. f.name.items) (slice_get t.fields.items k)
part_name (body.Struct s) k = option_map (λ f. f.name.items) (slice_get s.fields.items k)
part_name (body.Enum e) k = option_map (λ v. v.name.items) (slice_get e.values.items k)
part_name (body.Union u) k = option_map (λ m. m.name.items) (slice_get u.members.items k)

abbrev pub required_if : Option TableField → Bool
required_if None = false
required_if (Some f) = f.required

abbrev pub is_required : Body → ℕ → Bool
is_required (body.Table t) k = required_if (slice_get t.fields.items k)
is_required b k = false

-- the declaration of the old schema that a place is in; none for a statement
abbrev pub declaration_in : Place → Option ℕ
declaration_in (place.Declaration n) = Some n
declaration_in (place.Field n k) = Some n
declaration_in (place.Part n k) = Some n
declaration_in (place.Value n k) = Some n
declaration_in (place.Member n k) = Some n
declaration_in place.Root = None
declaration_in place.Identifier = None

abbrev pub name_of : Option Declared → Option (List ℕ)
name_of o = option_map (λ d. d.name.items) o

abbrev pub declared_name : List Declared → Option ℕ → Option (List ℕ)
declared_name ds None = None
declared_name ds (Some i) = name_of (slice_get ds i)

abbrev pub named_after : List Rename → List Declared → Option (List ℕ) → Option ℕ
named_after rs new None = None
named_after rs new (Some name) = named new (renamed rs name)

-- the declaration of the new schema that is that of the old one, by its name or its new name
abbrev pub declaration_after : List Rename → List Declared → List Declared → Option ℕ → Option ℕ
declaration_after rs old new o = named_after rs new (declared_name old o)

abbrev pub part_if : Option Body → Place → Option ℕ
part_if None p = None
part_if (Some b) p = part_at b p

abbrev pub name_if : Option Body → Option ℕ → Option (List ℕ)
name_if None o = None
name_if (Some b) None = None
name_if (Some b) (Some k) = part_name b k

-- what is reported in the old schema: the part that has the place, and its declaration
abbrev pub old_word : List Declared → Break → Word
old_word old one = record {
  declaration = declaration_in one.place;
  part = part_if (body_if old (declaration_in one.place)) one.place;
}

abbrev pub is_moved : Change → Bool
is_moved change.Moved = true
is_moved c = false

abbrev pub moved_to : Bool → Body → Option (List ℕ) → Place → Option ℕ
moved_to true b (Some name) p = part_named b name
moved_to true b None p = part_at b p
moved_to false b o p = part_at b p

-- in the new declaration the part that has the same place, or the name of what is moved
abbrev pub part_after : Option Body → Option (List ℕ) → Break → Option ℕ
part_after None name one = None
part_after (Some b) name one = moved_to (is_moved one.change) b name one.place

abbrev pub new_word_in : List Declared → Option ℕ → Option (List ℕ) → Break → Word
new_word_in new o name one = record {
  declaration = o;
  part = part_after (body_if new o) name one;
}

-- what is reported in the new schema
abbrev pub new_word : List Rename → List Declared → List Declared → Break → Word
new_word rs old new one =
    new_word_in new (declaration_after rs old new (declaration_in one.place))
    (name_if (body_if old (declaration_in one.place)) (old_word old one).part) one

-- what a statement says: the name of the root, or the identifier
abbrev pub stated_name : Schema → Place → Option (List ℕ)
stated_name s place.Root = declared_name s.declarations.items s.statements.root
stated_name s place.Identifier = option_map (λ w. w.items) s.statements.identifier
stated_name s p = None

abbrev pub part_said : Schema → Word → Option (List ℕ)
part_said s w = name_if (body_if s.declarations.items w.declaration) w.part

-- the part's name in the new schema, or else in the old one
abbrev pub part_told : Schema → Word → Schema → Word → Option (List ℕ)
part_told old before new after = option_or (part_said new after) (part_said old before)

-- and the declaration's
abbrev pub declaration_told : Schema → Word → Schema → Word → Option (List ℕ)
declaration_told old before new after =
    option_or (declared_name new.declarations.items after.declaration)
    (declared_name old.declarations.items before.declaration)

-- and what the statement says
abbrev pub statement_told : Schema → Schema → Place → Option (List ℕ)
statement_told old new p = option_or (stated_name new p) (stated_name old p)

-- the name that a message begins with: that of the part; where there is none, that of the
-- declaration, or what the statement says
abbrev pub subject : Schema → Word → Schema → Word → Place → List ℕ
subject old before new after p =
    unwrap_or (option_or (option_or (part_told old before new after)
    (declaration_told old before new after)) (statement_told old new p)) []

abbrev pub required_in : Option Body → Option ℕ → Bool
required_in None o = false
required_in (Some b) None = false
required_in (Some b) (Some k) = is_required b k

-- a field that is `required`
abbrev pub is_needed : List Declared → Word → Bool
is_needed ds w = required_in (body_if ds w.declaration) w.part
