-- Results whose error has a location.
use Rattle.std.specs.Prelude.{◌≡◌, ℕ, List, Option, Some, None, ◌⊎◌, Result, Ok, Err}
use Rattle.planus_read.specs.declared.errors.ErrorKind.{ErrorKind}
use Rattle.planus_read.specs.declared.errors.ErrorKind.TheVariants.{MissingRequired}
use Rattle.planus_read.specs.declared.located.ErrorLocation.{ErrorLocation}
use Rattle.planus_read.specs.declared.located.Error.{Error}

pub record IsLocation (location : ErrorLocation) (type_ method : List ℕ) (offset : ℕ) : Type 0 where
  pub type_name : location.type_.now ≡ type_
  pub method_name : location.method.now ≡ method
  pub byte_offset : location.byte_offset ≡ offset

-- a value, or its error at this location
abbrev pub Located :
    {A : Type 0} → (Result A ErrorKind → Type 0) → List ℕ → List ℕ → ℕ → Result A Error → Type 0
Located answers type_ method offset (Ok x) = answers (Ok x)
Located answers type_ method offset (Err e) =
    answers (Err e.error_kind) × IsLocation e.source_location type_ method offset

-- `MissingRequired` for none
abbrev pub Required :
    {A : Type 0} → (Result (Option A) ErrorKind → Type 0) → Result A ErrorKind → Type 0
Required answers (Ok x) = answers (Ok (Some x))
Required answers (Err e) = answers (Err e) ⊎ (answers (Ok None) × (e ≡ MissingRequired))

-- the default for none
abbrev pub OrDefault :
    {A : Type 0} → A → (Result (Option A) ErrorKind → Type 0) → Result A ErrorKind → Type 0
OrDefault default answers (Ok x) = answers (Ok (Some x)) ⊎ (answers (Ok None) × (x ≡ default))
OrDefault default answers (Err e) = answers (Err e)

abbrev pub IsMissing : {A : Type 0} → List ℕ → List ℕ → ℕ → Result A Error → Type 0
IsMissing {A} type_ method offset (Ok x) = ⊥
IsMissing {A} type_ method offset (Err e) =
    (e.error_kind ≡ MissingRequired) × IsLocation e.source_location type_ method offset
