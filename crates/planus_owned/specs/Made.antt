-- What is made of what an accessor returned.
use Rattle.std.specs.Prelude.{◌≡◌, ℕ, List, Option, Some, None, Result, Ok, Err, ◌⊎◌, Box, String}
use Rattle.std.specs.Prelude.{string_bytes}
use Rattle.std.specs.Borrow.{Bor}
use Rattle.std.specs.declared.alloc.Global.{Global}
use Rattle.planus_read.specs.declared.located.Error.{Error}
use Rattle.planus_read.specs.declared.table_reader.Table.{Table}
use Rattle.planus_owned.specs.declared.errors.OwnError.{OwnError}
use Rattle.planus_owned.specs.declared.errors.OwnError.TheVariants.{OutOfMemory, Read}

-- the accessor's error, or what is made of the value
abbrev pub IsMadeOf :
    {T V : Type 0} → (T → Result V OwnError → Type 0) → Result T Error → Result V OwnError → Type 0
IsMadeOf Copies (Ok x) r = Copies x r
IsMadeOf Copies (Err e) r = r ≡ Err (Read e)

-- the same value
abbrev pub CopiesValue : {T : Type 0} → T → Result T OwnError → Type 0
CopiesValue x r = r ≡ Ok x

-- a string of the same bytes, if there is memory
abbrev pub CopiesText : Bor (List ℕ) → Result (String Global) OwnError → Type 0
CopiesText text (Ok string) = string_bytes string ≡ text.now
CopiesText text (Err e) = e ≡ OutOfMemory

-- none of none, else what is made of the value
abbrev pub CopiesIf :
    {T V : Type 0} → (T → Result V OwnError → Type 0) → Option T → Result (Option V) OwnError
    → Type 0
CopiesIf Copies None r = r ≡ Ok None
CopiesIf Copies (Some x) (Ok None) = ⊥
CopiesIf Copies (Some x) (Ok (Some y)) = Copies x (Ok y)
CopiesIf Copies (Some x) (Err e) = Copies x (Err e)

-- what is made of the value, in memory of its own if there is such
abbrev pub CopiesBox :
    {T V : Type 0} → (T → Result V OwnError → Type 0) → T → Result (Box V Global) OwnError
    → Type 0
CopiesBox Made x (Ok boxed) = Made x (Ok boxed.value)
CopiesBox Made x (Err e) = (e ≡ OutOfMemory) ⊎ Made x (Err e)

-- what an accessor with this contract returns, by table, slot, names in errors and result
abbrev pub Accessor : Type 0 → Type 1
Accessor T = Table → ℕ → List ℕ → List ℕ → Result T Error → Type 0

-- what is made of what the accessor returns
pub record IsMadeFrom {T V : Type 0} (Returns : Accessor T)
    (Copies : T → Result V OwnError → Type 0) (table : Table) (slot : ℕ) (type_ method : List ℕ)
    (r : Result V OwnError)
    : Type 0 where
  pub read : Result T Error
  pub returned : Returns table slot type_ method read
  pub made : IsMadeOf Copies read r
