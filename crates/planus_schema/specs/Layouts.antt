-- The sizes of structs, and the places of their fields.
use Rattle.std.specs.Prelude.{◌≡◌, ℕ, ◌+◌, ◌-◌, ◌%◌, ◌≤◌, ◌<◌, max, Bool, ◌||◌, ◌==◌}
use Rattle.std.specs.Prelude.{List, [], ◌∷◌, map, fold, Option, Some, None, slice_get}
use Rattle.std.specs.Prelude.{if◌then◌else◌, true}
use Rattle.planus_schema.specs.declared.schema.Base.{Base}
use Rattle.planus_schema.specs.declared.schema.Base.TheVariants as base
use Rattle.planus_schema.specs.declared.schema.Body.{Body}
use Rattle.planus_schema.specs.declared.schema.Body.TheVariants as body
use Rattle.planus_schema.specs.declared.schema.Declared.{Declared}
use Rattle.planus_schema.specs.declared.schema.Struct.{Struct}
use Rattle.planus_schema.specs.declared.schema.StructField.{StructField}
use Rattle.planus_schema.specs.declared.measure.Measure.{Measure}
use Rattle.planus_schema.specs.Numbers.{scalar_size}
use Rattle.planus_schema.specs.Distinct.{AreDistinct}

abbrev pub body_in : Declared → Body
body_in d = d.body

abbrev pub measure_of_body : Option Body → Option Measure
measure_of_body None = None
measure_of_body (Some (body.Table t)) = None
measure_of_body (Some (body.Struct s)) = Some (record { size = s.size; alignment = s.alignment })
measure_of_body (Some (body.Enum e)) =
    Some (record { size = scalar_size e.scalar; alignment = scalar_size e.scalar })
measure_of_body (Some (body.Union u)) = None

-- of a value in a struct; `bodies` are the declarations
abbrev pub measure_in : List Body → Base → Option Measure
measure_in bodies (base.Scalar s) =
    Some (record { size = scalar_size s; alignment = scalar_size s })
measure_in bodies base.Text = None
measure_in bodies (base.Enum i) = measure_of_body (slice_get bodies i)
measure_in bodies (base.Struct i) = measure_of_body (slice_get bodies i)
measure_in bodies (base.Table i) = None
measure_in bodies (base.Union i) = None

-- the least multiple of `alignment` that is not below `at`
pub record IsNext (alignment at place : ℕ) : Type 0 where
  pub multiple : place % alignment ≡ 0
  pub after : at ≤ place
  pub nearest : place < at + alignment

abbrev pub next_multiple : ℕ → ℕ → ℕ
next_multiple alignment at =
    if at % alignment == 0 then at else at + (alignment - at % alignment)

-- fields in order, each at the first place that its alignment allows
abbrev pub Laid : ℕ → List StructField → ℕ → Type 0
Laid at [] end = at ≡ end
Laid at (f ∷ fs) end = IsNext f.alignment at f.distance × Laid (f.distance + f.size) fs end

abbrev pub greatest_alignment : List StructField → ℕ
greatest_alignment fs = fold (λ n f. max n f.alignment) 1 fs

abbrev pub is_alignment : ℕ → Bool
is_alignment n = n == 1 || n == 2 || n == 4 || n == 8 || n == 16 || n == 32

-- the size is the least multiple of the alignment that holds the fields
pub record IsLaidOut (s : Struct) : Type 0 where
  pub end : ℕ
  pub laid : Laid 0 s.fields.items end
  pub size : IsNext s.alignment end s.size
  pub aligned : is_alignment s.alignment ≡ true
  pub greatest : greatest_alignment s.fields.items ≤ s.alignment

pub record IsStruct (s : Struct) : Type 0 where
  pub places : IsLaidOut s
  pub names : AreDistinct (map (λ f. f.name.items) s.fields.items)
