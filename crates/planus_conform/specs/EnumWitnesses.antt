-- Bytes of enums that two schemas' code reads differently.
use Rattle.std.specs.Prelude.{◌≡◌, ℕ, ◌==◌, ◌&&◌, not, Bool, true, List, [], ◌∷◌}
use Rattle.std.specs.Prelude.{Option, Some, None, if◌then◌else◌}
use Rattle.std.specs.Int.{to_le_bytes}
use Rattle.std.specs.List.{list_all, Contains}
use Rattle.planus_inspect.specs.Shown.{bits_of}
use Rattle.planus_schema.specs.declared.number.Number.{Number}
use Rattle.planus_schema.specs.declared.scalar.Scalar.{Scalar}
use Rattle.planus_schema.specs.declared.schema.Base.TheVariants as base
use Rattle.planus_schema.specs.declared.schema.Declared.{Declared}
use Rattle.planus_schema.specs.declared.schema.Enum.{Enum}
use Rattle.planus_schema.specs.declared.schema.EnumValue.{EnumValue}
use Rattle.planus_schema.specs.Numbers.{scalar_size}
use Rattle.planus_resolve.specs.Enums.{IsEnum}
use Rattle.planus_conform.specs.declared.breaks.Change.{Change}
use Rattle.planus_conform.specs.declared.breaks.Change.TheVariants as change
use Rattle.planus_conform.specs.declared.breaks.Way.{Way}
use Rattle.planus_conform.specs.Found.{Found, known, item, items}
use Rattle.planus_conform.specs.Values.{body_at, enum_in, width_of}
use Rattle.planus_conform.specs.Reads.{answer}
use Rattle.planus_conform.specs.Alike.{SameAnswers}
use Rattle.planus_conform.specs.Breaks.{meets_old, meets_new, has_number, value_change, enum_change}

-- ---- the bytes

-- The format: a number is little-endian, in two's complement.
abbrev pub bytes_of : Scalar → Number → List ℕ
bytes_of s n = to_le_bytes (width_of s) (bits_of (scalar_size s) n)

-- a vector of the enum i that has this number alone
abbrev pub one_number : ℕ → Scalar → Number → Found
one_number i s n = items (base.Enum i) (record { bytes = bytes_of s n; count = 1 })

-- ---- what code returns

-- the name of the first value with these bits
abbrev pub name_in : Scalar → List EnumValue → ℕ → Option (List ℕ)
name_in s [] n = None
name_in s (v ∷ vs) n =
    if bits_of (scalar_size s) v.number == n then Some v.name.items else name_in s vs n

-- the name of the value that is returned
abbrev pub name_found : Enum → Found → Option (List ℕ)
name_found e (known n) = name_in e.scalar e.values.items n
name_found e found = None

-- the name of the value that the enum's code returns of this number
abbrev pub name_read : List Declared → ℕ → Enum → Number → Option (List ℕ)
name_read ds i e n = name_found e (answer ds (one_number i e.scalar n) (item 0 ∷ []))

-- ---- two enums

-- no number is minus zero
abbrev pub has_plain_zero : Enum → Bool
has_plain_zero e =
    list_all (λ v. not (v.number.negative && v.number.magnitude == 0)) e.values.items

-- an enum of each schema, of one integer type, each with distinct names and numbers of the type
pub record AreEnums (old new : List Declared) (i j : ℕ) (e g : Enum) : Type 0 where
  pub old_is : enum_in (body_at old i) ≡ Some e
  pub new_is : enum_in (body_at new j) ≡ Some g
  pub old_sound : IsEnum e
  pub new_sound : IsEnum g
  pub old_zero : has_plain_zero e ≡ true
  pub new_zero : has_plain_zero g ≡ true
  pub unchanged : enum_change e g ≡ None

-- The old enum's code returns the value; the new one's an error, or a value of another name.
pub record IsReadAway (old new : List Declared) (i j : ℕ) (e g : Enum) (v : EnumValue) : Type 0 where
  pub before : name_read old i e v.number ≡ Some v.name.items
  pub after : name_read new j g v.number ≡ Some v.name.items → ⊥

-- ---- what bytes show

-- So is a value that is removed or has another number.
abbrev pub ValuesShow : Way → List Declared → List Declared → Type 0
ValuesShow w old new =
    (i j : ℕ) (e g : Enum) (v : EnumValue) (c : Change) → AreEnums old new i j e g
    → Contains e.values.items v
    → value_change (meets_old w && not e.flags) g.values.items v ≡ Some c
    → IsReadAway old new i j e g v

-- Of the number of a value that is removed accessors don't return the same.
abbrev pub RemovedShow : Way → List Declared → List Declared → Type 0
RemovedShow w old new =
    (i j : ℕ) (e g : Enum) (v : EnumValue) → AreEnums old new i j e g → Contains e.values.items v
    → value_change (meets_old w && not e.flags) g.values.items v ≡ Some change.ValueRemoved
    → SameAnswers w old new (one_number i e.scalar v.number) (one_number j g.scalar v.number)
    (item 0 ∷ [])
    → ⊥

-- Nor do they of that of a value that is added.
abbrev pub AddedShow : Way → List Declared → List Declared → Type 0
AddedShow w old new =
    (i j : ℕ) (e g : Enum) (u : EnumValue) → AreEnums old new i j e g → Contains g.values.items u
    → (meets_new w && not e.flags && not (has_number e.values.items u.number)) ≡ true
    → SameAnswers w old new (one_number i e.scalar u.number) (one_number j g.scalar u.number)
    (item 0 ∷ [])
    → ⊥
