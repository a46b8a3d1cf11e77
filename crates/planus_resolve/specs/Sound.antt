-- What a schema is, whatever it was read from.
use Rattle.std.specs.Prelude.{◌≡◌, ℕ, ◌+◌, ◌*◌, ◌<◌, ◌≤◌, true, List, [], ◌∷◌, map, Option, Some, None}
use Rattle.std.specs.Prelude.{slice_get}
use Rattle.std.specs.List.{AllByRecursion}
use Rattle.std.specs.Option.{option_map}
use Rattle.planus_schema.specs.declared.schema.Base.{Base}
use Rattle.planus_schema.specs.declared.schema.Base.TheVariants as base
use Rattle.planus_schema.specs.declared.schema.Body.{Body}
use Rattle.planus_schema.specs.declared.schema.Body.TheVariants as body
use Rattle.planus_schema.specs.declared.schema.Enum.{Enum}
use Rattle.planus_schema.specs.declared.schema.Struct.{Struct}
use Rattle.planus_schema.specs.declared.schema.StructField.{StructField}
use Rattle.planus_schema.specs.declared.schema.Table.{Table}
use Rattle.planus_schema.specs.declared.schema.TableField.{TableField}
use Rattle.planus_schema.specs.declared.schema.Union.{Union}
use Rattle.planus_schema.specs.declared.schema.Schema.{Schema}
use Rattle.planus_schema.specs.declared.measure.Measure.{Measure}
use Rattle.planus_schema.specs.Distinct.{AreDistinct}
use Rattle.planus_resolve.specs.Defaults.{value_of, is_default}
use Rattle.planus_schema.specs.Layouts.{measure_in, body_in}
use Rattle.planus_resolve.specs.Structs.{items_in}
use Rattle.planus_resolve.specs.Fitting.{is_member}
use Rattle.planus_resolve.specs.Schemas.{IsBody, IsFour, said_of}

abbrev pub IsTableAt : List Body → ℕ → Type 0
IsTableAt bs i = (t : Table) × (slice_get bs i ≡ Some (body.Table t))

-- an index is that of a declaration of the type's kind
abbrev pub Refers : List Body → Base → Type 0
Refers bs (base.Scalar s) = Unit {0}
Refers bs base.Text = Unit {0}
Refers bs (base.Enum i) = (e : Enum) × (slice_get bs i ≡ Some (body.Enum e))
Refers bs (base.Struct i) = (s : Struct) × (slice_get bs i ≡ Some (body.Struct s))
Refers bs (base.Table i) = IsTableAt bs i
Refers bs (base.Union i) = (u : Union) × (slice_get bs i ≡ Some (body.Union u))

abbrev pub IsNested : List Body → Option ℕ → Type 0
IsNested bs None = Unit {0}
IsNested bs (Some i) = IsTableAt bs i

-- the field's references exist, and its default is one of its type
pub record RefersField (bs : List Body) (f : TableField) : Type 0 where
  pub kind : Refers bs f.kind.base
  pub nested : IsNested bs f.nested
  pub default : is_default f.kind (option_map value_of f.default) ≡ true

-- an enum or a struct is one of the first n declarations
abbrev pub IsBelow : ℕ → Base → Type 0
IsBelow n (base.Scalar s) = Unit {0}
IsBelow n base.Text = ⊥
IsBelow n (base.Enum i) = i < n
IsBelow n (base.Struct i) = i < n
IsBelow n (base.Table i) = ⊥
IsBelow n (base.Union i) = ⊥

-- the number of an array's items, or none
abbrev pub IsCount : Option ℕ → Type 0
IsCount None = Unit {0}
IsCount (Some n) = (1 ≤ n) × (n ≤ 65535)

-- a field of the struct that is declaration n: its type is declared before, so no struct is in
-- itself, and its size is the size of all its items
pub record RefersBefore (bs : List Body) (n : ℕ) (f : StructField) : Type 0 where
  pub below : IsBelow n f.base
  pub item : Measure
  pub measure : measure_in bs f.base ≡ Some item
  pub count : IsCount f.count
  pub size : f.size ≡ items_in f.count * item.size
  pub alignment : f.alignment ≡ item.alignment

-- a table, a struct or a string
abbrev pub RefersMember : List Body → Base → Type 0
RefersMember bs b = (is_member b ≡ true) × Refers bs b

abbrev pub RefersBody : List Body → ℕ → Body → Type 0
RefersBody bs n (body.Table t) = AllByRecursion (RefersField bs) t.fields.items
RefersBody bs n (body.Struct s) = AllByRecursion (RefersBefore bs n) s.fields.items
RefersBody bs n (body.Enum e) = Unit {0}
RefersBody bs n (body.Union u) = AllByRecursion (λ m. RefersMember bs m.base) u.members.items

-- from the declaration n on
abbrev pub AreSound : List Body → ℕ → List Body → Type 0
AreSound bs n [] = Unit {0}
AreSound bs n (b ∷ rest) = IsBody b × RefersBody bs n b × AreSound bs (n + 1) rest

pub record IsSound (s : Schema) : Type 0 where
  pub names : AreDistinct (map (λ d. d.name.items) s.declarations.items)
  pub bodies : AreSound (map body_in s.declarations.items) 0 (map body_in s.declarations.items)
  pub root : IsNested (map body_in s.declarations.items) s.statements.root
  pub identifier : IsFour (said_of s.statements).identifier
