-- Where in a buffer a field is, told by the names that lead there.
use Rattle.std.specs.Prelude.{◌≡◌, ◌⊎◌, ◌<◌, ℕ, List, Option, Some, None, Result, Ok, Err, ⊤}
use Rattle.std.specs.String.{string_bytes}
use Rattle.planus_read.specs.declared.located.Error.{Error}
use Rattle.planus_read.specs.declared.located.ErrorLocation.{ErrorLocation}
use Rattle.planus_verify.specs.Schemas.{Shapes}
use Rattle.planus_verify.specs.Soughts.{ends_of}
use Rattle.planus_verify.specs.Trails.{IsTrail, NoTrail, root_tables}
use Rattle.planus_verify.specs.declared.fault.Fault.{Fault}
use Rattle.planus_verify.specs.declared.fault.Fault.TheVariants as fault
use Rattle.planus_verify.specs.declared.fault.FieldPlace.{FieldPlace}
use Rattle.planus_verify.specs.declared.limits.Limits.{Limits}
use Rattle.planus_verify.specs.declared.sought.Sought.{Sought}
use Rattle.planus_verify.specs.declared.sought.Sought.TheVariants as sought
use Rattle.planus_views.specs.Names.{NamesV, NameTexts, name_texts, table_named, slot_named}
use Rattle.planus_views.specs.Names.{trail_text}
use Rattle.planus_views.specs.declared.field_path.FieldPath.{FieldPath}

-- what it shows
abbrev pub path_text : FieldPath → List ℕ
path_text path = string_bytes path.text

-- this field of the table that begins there, or else an item of the vector whose items do
abbrev pub sought_at : ℕ → ℕ → Option ℕ → Sought
sought_at t start None = sought.Item start
sought_at t start (Some slot) =
    sought.Field (record { table = t; start = start; slot = slot; item = None })

abbrev pub sought_in : NamesV → ℕ → List ℕ → Option ℕ → Sought
sought_in names start method None = sought.Item start
sought_in names start method (Some t) = sought_at t start (slot_named names.fields t method)

-- what an error is of, by the names of the table and of the accessor: the field of that name, or
-- else an item
abbrev pub sought_named : NamesV → ErrorLocation → Sought
sought_named names location = sought_in names location.byte_offset location.method.now
    (table_named names.tables location.type_.now)

-- those of the verifier of flatc's code
abbrev pub default_limits : Limits
default_limits = record { depth = 64; tables = 1000000 }

module _ (schema : Shapes) (names : NamesV) (t : ℕ) (limits : Limits) where
  -- The names of fields that lead from the root to what is sought; or none lead there within the
  -- limits, or more tables are reached than the limit; or memory is refused.
  abbrev pub IsWhereAt : {E : Type 0} → Sought → List ℕ → Result (Option FieldPath) E → Type 0
  IsWhereAt sought S (Ok (Some path)) =
      (trail : List FieldPlace) × IsTrail schema t limits.depth (ends_of schema sought) S trail
      × (path_text path ≡ trail_text names trail)
  IsWhereAt sought S (Ok None) = NoTrail schema t limits.depth (ends_of schema sought) S
      ⊎ (limits.tables < root_tables schema t limits.depth S)
  IsWhereAt sought S (Err e) = ⊤

  -- of a fault of verification
  abbrev pub IsWhereFault : {E : Type 0} → Fault → List ℕ → Result (Option FieldPath) E → Type 0
  IsWhereFault (fault.Field place e) S result = IsWhereAt (sought.Field place) S result
  IsWhereFault (fault.Root e) S result = result ≡ Ok None
  IsWhereFault fault.TooDeep S result = result ≡ Ok None
  IsWhereFault fault.TooMany S result = result ≡ Ok None

-- of an error of an accessor
pub record IsWhere {E : Type 0} (schema : Shapes) (names : NamesV) (t : ℕ) (limits : Limits)
    (error : Error) (S : List ℕ) (result : Result (Option FieldPath) E) : Type 0 where
  pub there : IsWhereAt schema names t limits (sought_named names error.source_location) S result

-- The same by names of which only the texts are told.

abbrev pub IsWhereBy : {E : Type 0} → Shapes → NameTexts → ℕ → Limits → Error → List ℕ
    → Result (Option FieldPath) E → Type 0
IsWhereBy schema texts t limits error S result = (names : NamesV) × (name_texts names ≡ texts)
    × IsWhere schema names t limits error S result

abbrev pub IsWhereFaultBy : {E : Type 0} → Shapes → NameTexts → ℕ → Limits → Fault → List ℕ
    → Result (Option FieldPath) E → Type 0
IsWhereFaultBy schema texts t limits fault S result = (names : NamesV)
    × (name_texts names ≡ texts) × IsWhereFault schema names t limits fault S result
