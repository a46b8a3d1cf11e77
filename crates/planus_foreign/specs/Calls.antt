-- What a call answers that reads a table's field, by the result of the field's accessor.
use Rattle.std.specs.Prelude.{◌≡◌, ℕ, List, Option, Some, None, Result, Ok, Err, ◌⊎◌}
use Rattle.planus_read.specs.declared.errors.ErrorKind.{ErrorKind}
use Rattle.planus_read.specs.declared.located.Error.{Error}
use Rattle.planus_read.specs.declared.table_reader.Table.{Table}
use Rattle.planus_read.specs.Clauses.{Answer, shown}
use Rattle.planus_read.specs.Plain.{Shape}
use Rattle.planus_read.specs.Reading.{table_reading}
use Rattle.planus_read.specs.Tables.{ShowsTable}
use Rattle.planus_foreign.specs.Statuses.{fine, absent, status_of}

-- the table to which the reference at this position of the buffer leads, or why there is none
abbrev pub IsTableAt : List ℕ → ℕ → Result Table ErrorKind → Type 0
IsTableAt buffer position r = Answer (shown (ShowsTable buffer 0) (table_reading buffer position)) r

module _ {A T : Type 0} (Is : A → T → Type 0) where
  -- what was read was stored, or nothing
  abbrev pub Gives : Result A Error → T → T → ℕ → Type 0
  Gives (Ok x) old new status = Is x new × (status ≡ fine)
  Gives (Err e) old new status = (new ≡ old) × (status ≡ status_of e.error_kind)

  -- the same of what may be absent
  abbrev pub GivesIf : Result (Option A) Error → T → T → ℕ → Type 0
  GivesIf (Ok (Some x)) old new status = Is x new × (status ≡ fine)
  GivesIf (Ok None) old new status = (new ≡ old) × (status ≡ absent)
  GivesIf (Err e) old new status = (new ≡ old) × (status ≡ status_of e.error_kind)

-- a value is stored as it is, or by the bytes by which it is encoded
abbrev pub IsSame : {A : Type 0} → A → A → Type 0
IsSame x new = new ≡ x

abbrev pub IsBytesOf :
    {A : Type 0} {size alignment : ℕ} → Shape A size alignment → A → List ℕ → Type 0
IsBytesOf shape x new = new ≡ shape.encoded x

abbrev pub Value : {A : Type 0} → Result A Error → A → A → ℕ → Type 0
Value = Gives IsSame

abbrev pub ValueIf : {A : Type 0} → Result (Option A) Error → A → A → ℕ → Type 0
ValueIf = GivesIf IsSame

abbrev pub Bytes :
    {A : Type 0} {size alignment : ℕ} → Shape A size alignment → Result A Error → List ℕ → List ℕ
    → ℕ → Type 0
Bytes shape = Gives (IsBytesOf shape)

abbrev pub BytesIf :
    {A : Type 0} {size alignment : ℕ} → Shape A size alignment → Result (Option A) Error → List ℕ
    → List ℕ → ℕ → Type 0
BytesIf shape = GivesIf (IsBytesOf shape)

module _ {R T : Type 0} (IsResult : Table → R → Type 0) (Stores : R → T → T → ℕ → Type 0)
    (buffer : List ℕ) (position : ℕ) (old new : T) (status : ℕ)
  where
    -- a table is there, and what its accessor returns was stored
    pub record Found : Type 0 where
      pub table : Table
      pub there : IsTableAt buffer position (Ok table)
      pub result : R
      pub is : IsResult table result
      pub stores : Stores result old new status

    -- none is there, and the status says why
    pub record NoTable : Type 0 where
      pub kind : ErrorKind
      pub why : IsTableAt buffer position (Err kind)
      pub unchanged : new ≡ old
      pub said : status ≡ status_of kind

    -- A call reads the table at a position of a buffer, and stores what its accessor returns.
    abbrev pub Reads : Type 0
    Reads = Found ⊎ NoTable

module _ {A T : Type 0} (Is : A → T → Type 0) where
  -- the same of what is read at a position, whose error has no place
  abbrev pub GivesThere : Result A ErrorKind → T → T → ℕ → Type 0
  GivesThere (Ok x) old new status = Is x new × (status ≡ fine)
  GivesThere (Err kind) old new status = (new ≡ old) × (status ≡ status_of kind)

-- A call reads what is at a position of a buffer, and stores it.
pub record ReadsThere {A T : Type 0} (IsResult : List ℕ → ℕ → Result A ErrorKind → Type 0)
    (Is : A → T → Type 0) (buffer : List ℕ) (position : ℕ) (old new : T) (status : ℕ) : Type 0
  where
    pub result : Result A ErrorKind
    pub is : IsResult buffer position result
    pub stores : GivesThere Is result old new status
