use Rattle.std.specs.Prelude.{◌≡◌, ℕ, List, [], Bool, true, false, length}
use Rattle.planus_back.specs.Parts.{Part}
use Rattle.planus_write.specs.inner.Backed.{Backed, MakesRoom, PutsBytes}
use Rattle.planus_write.specs.History.{unshared_entry}
use Rattle.planus_write.specs.Placing.{PlacesEntry}
use Rattle.planus_write.specs.State.{State}
use Rattle.planus_write.specs.Tables.{vtable_part, vtable_entry, word_part}

pub record PutsPart (part : Part) (old : Backed) (place : ℕ) (new : Backed) : Type 0 where
  pub between : Backed
  pub room : MakesRoom part.size part.alignment old place between
  pub count : length (part.bytes_at place) ≡ part.size
  pub put : PutsBytes (part.bytes_at place) between new

pub record PutsParts (vtable : List ℕ) (body : Part) (old new : Backed) : Type 0 where
  pub vtable_at : ℕ
  pub first : Backed
  pub vtable_put : PutsPart (vtable_part vtable) old vtable_at first
  pub body_at : ℕ
  pub second : Backed
  pub body_put : PutsPart body first body_at second
  pub table_at : ℕ
  pub word_put : PutsPart (word_part vtable_at) second table_at new

abbrev pub PutsPartsIf : Bool → List ℕ → Part → Backed → Backed → Type 0
PutsPartsIf true vtable body old new = PutsParts vtable body old new
PutsPartsIf false vtable body old new = new ≡ old

pub record PutsTable (vtable : List ℕ) (body : Part) (old new : State) : Type 0 where
  pub vtable_at : ℕ
  pub first : State
  pub vtable_put : PlacesEntry (vtable_entry vtable) [] old vtable_at first
  pub body_at : ℕ
  pub second : State
  pub body_put : PlacesEntry (unshared_entry body) [] first body_at second
  pub table_at : ℕ
  pub word_put : PlacesEntry (unshared_entry (word_part vtable_at)) [] second table_at new
  pub last : table_at ≡ length new.bytes

abbrev pub PutsTableIf : Bool → List ℕ → Part → State → State → Type 0
PutsTableIf true vtable body old new = PutsTable vtable body old new
PutsTableIf false vtable body old new = new ≡ old
