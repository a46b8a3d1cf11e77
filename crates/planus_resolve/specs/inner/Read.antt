-- What is known of a part of a schema that was read without a fault.
use Rattle.std.specs.Prelude.{◌≡◌, ℕ, ◌+◌, ◌<◌, ◌≤◌, Bool, true, false, ◌&&◌, ◌||◌}
use Rattle.std.specs.Prelude.{List, [], ◌∷◌, ◌++◌, codes, length, map, nat_eq, Some}
use Rattle.std.specs.List.{list_all, list_any}
use Rattle.planus_syntax.specs.Values.{Name, field_of, item_of, member_of, record_of}
use Rattle.planus_syntax.specs.declared.value.Field.{Field}
use Rattle.planus_syntax.specs.declared.value.Item.{Item}
use Rattle.planus_syntax.specs.declared.value.Member.{Member}
use Rattle.planus_syntax.specs.declared.value.Record.{Record}
use Rattle.planus_schema.specs.declared.measure.Measure.{Measure}
use Rattle.planus_schema.specs.declared.place.Layout.{Layout}
use Rattle.planus_schema.specs.declared.schema.Base.{Base}
use Rattle.planus_schema.specs.declared.schema.Body.{Body}
use Rattle.planus_schema.specs.declared.schema.Declared.{Declared}
use Rattle.planus_schema.specs.declared.schema.Statements.{Statements}
use Rattle.planus_schema.specs.declared.schema.Struct.{Struct}
use Rattle.planus_schema.specs.declared.schema.StructField.{StructField}
use Rattle.planus_schema.specs.declared.schema.TableField.{TableField}
use Rattle.planus_schema.specs.declared.schema.Union.{Union}
use Rattle.planus_schema.specs.declared.schema.UnionMember.{UnionMember}
use Rattle.planus_schema.specs.Distinct.{AreDistinct, Each2}
use Rattle.planus_schema.specs.Layouts.{body_in, greatest_alignment, IsNext, IsStruct}
use Rattle.planus_schema.specs.Layouts.{Laid, measure_in, measure_of_body}
use Rattle.planus_schema.specs.Slots.{Follow, slots_taken, width}
use Rattle.planus_resolve.specs.declared.fault.Fault.{Fault}
use Rattle.planus_resolve.specs.declared.fault.ResolveError.{ResolveError}
use Rattle.planus_resolve.specs.declared.fault.ResolveError.TheVariants as error
use Rattle.planus_resolve.specs.Faults.{Adds, AreInOrder, sound_measure}
use Rattle.planus_resolve.specs.Names.{HeadV, SpaceV}
use Rattle.planus_resolve.specs.Schemas.{AreFaults, IsBody, IsFour, SaysBody, StatementsV, said_of}
use Rattle.planus_resolve.specs.Structs.{SaysStruct, SaysStructField}
use Rattle.planus_resolve.specs.Unions.{IsUnion, SaysMember, is_tag, tag_in, tag_said, tags_said}
use Rattle.std.specs.BTreeMap.{BTreeMap}
use denote.Ref.{Bor}
use Rattle.planus_resolve.specs.inner.Index.{IsTaken}
use Rattle.planus_resolve.specs.Tables.{SaysField, all_names, is_lawful, names_taken}
use Rattle.planus_resolve.specs.WrongStructs.{alignment_in, end_after, end_of, field_measure}
use Rattle.planus_resolve.specs.WrongStructs.{greatest_after, measure_among, measures_of}
use Rattle.planus_resolve.specs.WrongStructs.{struct_measure}
use Rattle.planus_resolve.specs.WrongTables.{are_among, field_slot, field_type, slots_from}

-- a field of a table after the slots below `next`
pub record IsFieldRead (hs : List HeadV) (space : SpaceV) (ids : Bool) (next : ℕ) (d : Field)
    (f : TableField) : Type 0 where
  pub says : SaysField hs space ids (field_of d) f
  pub order : ids ≡ false → f.slot + 1 ≡ next + width f.kind
  pub lawful : is_lawful f ≡ true
  pub kind : f.kind ≡ field_type hs space d
  pub slot : f.slot ≡ field_slot f.kind ids next d

pub record AreFieldsRead (hs : List HeadV) (space : SpaceV) (ids : Bool) (ds : List Field)
    (fs : List TableField) : Type 0 where
  pub says : Each2 (SaysField hs space ids) (map field_of ds) fs
  pub order : ids ≡ false → (end : ℕ) × Follow 0 fs end
  pub lawful : list_all is_lawful fs ≡ true
  pub names : AreDistinct (all_names fs)
  pub slots : slots_taken fs ≡ slots_from hs space ids 0 ds

-- a field of a struct after `at` bytes
pub record IsStructFieldRead (hs : List HeadV) (space : SpaceV) (bodies : List Declared) (at : ℕ)
    (d : Field) (f : StructField) : Type 0 where
  pub says : SaysStructField hs space (map body_in bodies) (field_of d) f
  pub placed : IsNext f.alignment at f.distance
  pub within : f.distance + f.size ≤ 65535
  pub next : f.distance + f.size ≡ end_of at (field_measure hs space (measures_of bodies) d)
  pub alignment : f.alignment ≡ alignment_in (field_measure hs space (measures_of bodies) d)

pub record IsLayoutRead (hs : List HeadV) (space : SpaceV) (bodies : List Declared)
    (ds : List Field) (l : Layout) : Type 0 where
  pub says : Each2 (SaysStructField hs space (map body_in bodies)) (map field_of ds) l.fields.items
  pub laid : Laid 0 l.fields.items l.end
  pub within : l.end ≤ 65535
  pub greatest : l.alignment ≡ greatest_alignment l.fields.items
  pub names : AreDistinct (map (λ f. f.name.items) l.fields.items)
  pub end : l.end ≡ end_after hs space (measures_of bodies) 0 ds
  pub alignment : l.alignment ≡ greatest_after hs space (measures_of bodies) 1 ds

-- a member after the tag `previous`, and after these
pub record IsMemberRead (hs : List HeadV) (space : SpaceV) (previous : ℕ)
    (members : List UnionMember) (d : Member) (m : UnionMember) : Type 0 where
  pub says : SaysMember hs space (member_of d) m
  pub tag : tag_said (Some previous) (member_of d).value ≡ Some m.tag
  pub within : is_tag m.tag ≡ true
  pub new : list_any (λ x. nat_eq x.tag m.tag) members ≡ false

-- `NONE`, and the names of these
abbrev pub names_of_members : List UnionMember → List Name
names_of_members members = codes "NONE" ∷ map (λ m. m.name.items) members

pub record IsUnionRead (hs : List HeadV) (space : SpaceV) (ds : List Member) (u : Union)
    : Type 0 where
  pub says : Each2 (SaysMember hs space) (map member_of ds) u.members.items
  pub tags : tags_said (Some 0) (map member_of ds) ≡ Some (map tag_in u.members.items)
  pub sound : IsUnion u

-- the names of a field after these, and whether there is a `key` before it and after it
pub record AreNamesRead (old : List Name) (names : BTreeMap (Bor (List ℕ)) ℕ) (f : TableField)
    (before after : Bool) : Type 0 where
  pub taken : IsTaken names (old ++ names_taken f)
  pub new : are_among old (names_taken f) ≡ false
  pub key : after ≡ (before || f.key)
  pub first : (f.key && before) ≡ false

-- the size of a field of a struct, after these declarations
pub record IsMeasureRead (bodies : List Declared) (b : Base) (m : Measure) : Type 0 where
  pub measure : measure_in (map body_in bodies) b ≡ Some m
  pub among : measure_among (measures_of bodies) b ≡ Some m
  pub some : 0 < m.alignment
  pub small : m.alignment ≤ 32
  pub fits : m.size ≤ 65535

pub record IsStructRead (hs : List HeadV) (space : SpaceV) (bodies : List Declared) (r : Record)
    (s : Struct) : Type 0 where
  pub says : SaysStruct hs space (map body_in bodies) (record_of r) s
  pub sound : IsStruct s
  pub measure : struct_measure hs space (measures_of bodies) r
      ≡ Some (record { size = s.size; alignment = s.alignment })

pub record IsBodyRead (hs : List HeadV) (space : SpaceV) (bodies : List Declared) (i : Item)
    (b : Body) : Type 0 where
  pub says : SaysBody hs space (map body_in bodies) (item_of i) b
  pub sound : IsBody b
  pub measure : measure_of_body (Some b) ≡ sound_measure hs space (measures_of bodies) i

-- faults that were found, after those before
pub record AreNoted (found before after : List Fault) : Type 0 where
  pub kept : after ≡ [] → before ≡ []
  pub most : length after ≤ 20
  pub adds : Adds found before after

-- what statements make of those before, and the faults that were found in them
pub record AreStated (said : StatementsV) (found : List Fault) (old new : Statements)
    (before after : List Fault) : Type 0 where
  pub said_now : after ≡ [] → said_of new ≡ said
  pub four : after ≡ [] → IsFour (said_of old).identifier → IsFour (said_of new).identifier
  pub noted : AreNoted found before after

-- these faults in order, from one to twenty, or memory was refused
abbrev pub IsToldOf : List Fault → ResolveError → Type 0
IsToldOf found error.OutOfMemory = Unit {0}
IsToldOf found (error.Faults v) = AreInOrder found v.items × AreFaults v.items
