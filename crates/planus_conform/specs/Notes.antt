-- What changes a user's code alone: a part of another name, or a default that is written otherwise.
use Rattle.std.specs.Prelude.{ℕ, ◌+◌, ◌&&◌, not, Bool, false, List, [], ◌∷◌, ◌++◌}
use Rattle.std.specs.Prelude.{Option, Some, None, if◌then◌else◌}
use Rattle.std.specs.List.{list_any}
use Rattle.std.specs.Str.{bytes_eq}
use Rattle.planus_schema.specs.declared.number.Number.{Number}
use Rattle.planus_schema.specs.declared.schema.Body.{Body}
use Rattle.planus_schema.specs.declared.schema.Body.TheVariants as body
use Rattle.planus_schema.specs.declared.schema.Declared.{Declared}
use Rattle.planus_schema.specs.declared.schema.Enum.{Enum}
use Rattle.planus_schema.specs.declared.schema.EnumValue.{EnumValue}
use Rattle.planus_schema.specs.declared.schema.Schema.{Schema}
use Rattle.planus_schema.specs.declared.schema.StructField.{StructField}
use Rattle.planus_schema.specs.declared.schema.TableField.{TableField}
use Rattle.planus_schema.specs.declared.schema.Union.{Union}
use Rattle.planus_schema.specs.declared.schema.UnionMember.{UnionMember}
use Rattle.planus_resolve.specs.Defaults.{ValueV, float}
use Rattle.planus_conform.specs.declared.breaks.Break.{Break}
use Rattle.planus_conform.specs.declared.breaks.Change.{Change}
use Rattle.planus_conform.specs.declared.breaks.Change.TheVariants as change
use Rattle.planus_conform.specs.declared.breaks.Place.TheVariants as place
use Rattle.planus_conform.specs.declared.breaks.Way.{Way}
use Rattle.planus_conform.specs.declared.rename.Rename.{Rename}
use Rattle.planus_conform.specs.Values.{member_in}
use Rattle.planus_conform.specs.Reads.{default_of, field_in, part_in}
use Rattle.planus_conform.specs.Matching.{match_at, matches_of}
use Rattle.planus_conform.specs.Defaults.{same_number}
use Rattle.planus_conform.specs.Breaks.{meets_old, noted, change_if, field_change, part_change}
use Rattle.planus_conform.specs.Breaks.{value_change, member_change, body_if}

-- nothing is noted of a part that breaks
abbrev pub unless_broken : Option Change → Option Change → Option Change
unless_broken None one = one
unless_broken (Some c) one = None

-- ---- fields of tables

-- the old code has an accessor of this name
abbrev pub has_field : List TableField → List ℕ → Bool
has_field fs name = list_any (λ f. bytes_eq f.name.items name && not f.deprecated) fs

-- of integers no text is kept
abbrev pub is_respelled : Option ValueV → Option ValueV → Bool
is_respelled (Some (float a)) (Some (float b)) = not (bytes_eq a b)
is_respelled v w = false

-- the name of the new field is new, or its default is written otherwise
abbrev pub kept_note : List TableField → TableField → TableField → Option Change
kept_note fs f g = if not (has_field fs g.name.items) then Some change.Renamed
    else change_if (is_respelled (default_of f) (default_of g)) change.DefaultRespelled

abbrev pub field_note_to : List TableField → TableField → Option TableField → Option Change
field_note_to fs f None = None
field_note_to fs f (Some g) = if g.deprecated then None else kept_note fs f g

-- none for a deprecated field, which code doesn't read
abbrev pub field_note :
    Way → List (Option ℕ) → List TableField → List TableField → TableField → Option Change
field_note w m gs fs f = if f.deprecated then None
    else unless_broken (field_change w m gs f) (field_note_to fs f (field_in gs f.slot))

-- `fs`: all fields of the old table
abbrev pub field_notes :
    Way → List (Option ℕ) → ℕ → List TableField → List TableField → List TableField → List Break
field_notes w m n gs fs [] = []
field_notes w m n gs fs (f ∷ rest) =
    noted (place.Field n f.slot) (field_note w m gs fs f) ++ field_notes w m n gs fs rest

-- ---- structs

abbrev pub has_part : List StructField → List ℕ → Bool
has_part fs name = list_any (λ f. bytes_eq f.name.items name) fs

abbrev pub part_note_to : List StructField → Option StructField → Option Change
part_note_to fs None = None
part_note_to fs (Some g) = change_if (not (has_part fs g.name.items)) change.Renamed

abbrev pub part_note :
    List (Option ℕ) → List StructField → List StructField → StructField → Option Change
part_note m gs fs f =
    unless_broken (part_change m gs f) (part_note_to fs (part_in gs f.distance))

abbrev pub part_notes :
    List (Option ℕ) → ℕ → List StructField → List StructField → List StructField → List Break
part_notes m n gs fs [] = []
part_notes m n gs fs (f ∷ rest) =
    noted (place.Part n f.distance) (part_note m gs fs f) ++ part_notes m n gs fs rest

-- ---- enums

-- the first value with this number
abbrev pub value_in : List EnumValue → Number → Option EnumValue
value_in [] n = None
value_in (u ∷ us) n = if same_number n u.number then Some u else value_in us n

abbrev pub has_value : List EnumValue → List ℕ → Bool
has_value vs name = list_any (λ v. bytes_eq v.name.items name) vs

abbrev pub value_note_to : List EnumValue → Option EnumValue → Option Change
value_note_to vs None = None
value_note_to vs (Some u) = change_if (not (has_value vs u.name.items)) change.Renamed

abbrev pub value_note : Bool → List EnumValue → List EnumValue → EnumValue → Option Change
value_note met us vs v =
    unless_broken (value_change met us v) (value_note_to vs (value_in us v.number))

abbrev pub value_notes :
    Bool → ℕ → List EnumValue → List EnumValue → List EnumValue → List Break
value_notes met n us vs [] = []
value_notes met n us vs (v ∷ rest) =
    noted (place.Value n v.number) (value_note met us vs v) ++ value_notes met n us vs rest

-- ---- unions

abbrev pub has_member : List UnionMember → List ℕ → Bool
has_member olds name = list_any (λ a. bytes_eq a.name.items name) olds

abbrev pub member_note_to : List UnionMember → Option UnionMember → Option Change
member_note_to olds None = None
member_note_to olds (Some b) = change_if (not (has_member olds b.name.items)) change.Renamed

abbrev pub member_note :
    Bool → List (Option ℕ) → List UnionMember → List UnionMember → UnionMember → Option Change
member_note met m bs olds a =
    unless_broken (member_change met m bs a) (member_note_to olds (member_in bs a.tag))

abbrev pub member_notes :
    Bool → List (Option ℕ) → ℕ → List UnionMember → List UnionMember → List UnionMember → List Break
member_notes met m n bs olds [] = []
member_notes met m n bs olds (a ∷ rest) =
    noted (place.Member n a.tag) (member_note met m bs olds a) ++ member_notes met m n bs olds rest

-- ---- declarations

-- of two declarations that belong together
abbrev pub notes_to : Way → List (Option ℕ) → ℕ → Body → Body → List Break
notes_to w m n (body.Table t) (body.Table u) =
    field_notes w m n u.fields.items t.fields.items t.fields.items
notes_to w m n (body.Struct s) (body.Struct t) =
    part_notes m n t.fields.items s.fields.items s.fields.items
notes_to w m n (body.Enum e) (body.Enum g) =
    value_notes (meets_old w && not e.flags) n g.values.items e.values.items e.values.items
notes_to w m n (body.Union u) (body.Union v) =
    member_notes (meets_old w) m n v.members.items u.members.items u.members.items
notes_to w m n b c = []

abbrev pub body_notes : Way → List (Option ℕ) → ℕ → Body → Option Body → List Break
body_notes w m n b None = []
body_notes w m n b (Some c) = notes_to w m n b c

abbrev pub declared_notes : Way → List (Option ℕ) → List Declared → ℕ → Declared → List Break
declared_notes w m new n d = body_notes w m n d.body (body_if new (match_at m n))

abbrev pub notes_from : Way → List (Option ℕ) → List Declared → ℕ → List Declared → List Break
notes_from w m new n [] = []
notes_from w m new n (d ∷ ds) = declared_notes w m new n d ++ notes_from w m new (n + 1) ds

abbrev pub notes_of : Way → List Rename → Schema → Schema → List Break
notes_of w rs old new =
    notes_from w (matches_of rs old.declarations.items new.declarations.items)
    new.declarations.items 0 old.declarations.items
