-- What is made of a value is put into memory of its own, by any name for what is made.
use Rattle.std.proofs.Common.{Option, Some, None, Result, Ok, Err, inl, inr, ⊎_elim}
use Rattle.std.specs.Prelude.{Box}
use Rattle.std.specs.declared.alloc.Global.{Global}
use Rattle.planus_read.specs.declared.located.Error.{Error}
use Rattle.planus_read.specs.declared.table_reader.Table.{Table}
use Rattle.planus_owned.specs.declared.errors.OwnError.{OwnError}
use Rattle.planus_owned.specs.Made.{IsMadeOf, CopiesBox, CopiesIf}
use Rattle.planus_owned.specs.Records.{Owning, IsMade, IsMadeOfView}

module _ {V R : Type 0} (P Q : V → Result R OwnError → Type 0)
    (leads : (view : V) (r : Result R OwnError) → P view r → Q view r)
  where
    box_as : (view : V) (r : Result (Box R Global) OwnError) → CopiesBox P view r
        → CopiesBox Q view r
    box_as view (Ok boxed) is = leads view (Ok boxed.value) is
    box_as view (Err e) is =
        ⊎_elim (λ memory. inl memory) (λ made. inr (leads view (Err e) made)) is

    boxed_as : (read : Result V Error) (r : Result (Box R Global) OwnError)
        → IsMadeOf (CopiesBox P) read r → IsMadeOf (CopiesBox Q) read r
    boxed_as (Ok view) r is = box_as view r is
    boxed_as (Err e) r is = is

    if_as : (found : Option V) (r : Result (Option (Box R Global)) OwnError)
        → CopiesIf (CopiesBox P) found r → CopiesIf (CopiesBox Q) found r
    if_as None r is = is
    if_as (Some view) (Ok None) is = is
    if_as (Some view) (Ok (Some boxed)) is = box_as view (Ok boxed) is
    if_as (Some view) (Err e) is = box_as view (Err e) is

    boxed_if_as : (read : Result (Option V) Error) (r : Result (Option (Box R Global)) OwnError)
        → IsMadeOf (CopiesIf (CopiesBox P)) read r → IsMadeOf (CopiesIf (CopiesBox Q)) read r
    boxed_if_as (Ok found) r is = if_as found r is
    boxed_if_as (Err e) r is = is

module _ {V R : Type 0} (owned : Owning R) (table_of : V → Table)
    (P : V → Result R OwnError → Type 0)
    (leads : (view : V) (r : Result R OwnError) → P view r → IsMade owned (table_of view) r)
  where
    of_view : (view : V) (r : Result R OwnError) → P view r → IsMadeOfView owned table_of view r
    of_view view r is = record { made = leads view r is }

    pub views_boxed : (read : Result V Error) (r : Result (Box R Global) OwnError)
        → IsMadeOf (CopiesBox P) read r → IsMadeOf (CopiesBox (IsMadeOfView owned table_of)) read r
    views_boxed read r is = boxed_as P (IsMadeOfView owned table_of) of_view read r is

    pub views_boxed_if : (read : Result (Option V) Error) (r : Result (Option (Box R Global)) OwnError)
        → IsMadeOf (CopiesIf (CopiesBox P)) read r
        → IsMadeOf (CopiesIf (CopiesBox (IsMadeOfView owned table_of))) read r
    views_boxed_if read r is = boxed_if_as P (IsMadeOfView owned table_of) of_view read r is
