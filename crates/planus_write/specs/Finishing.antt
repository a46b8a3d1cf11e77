-- The result of a finish, and the builder after it.
use Rattle.std.specs.Prelude.{◌≡◌, ℕ, List, [], length, Result, Ok, Err, Option, ⊤}
use Rattle.std.specs.Borrow.{follows_so, MutBor, Bor, Fml}
use mathlib.Core.Option.{none}
use Rattle.planus_write.specs.State.{State}
use Rattle.planus_write.specs.History.{Entry}
use Rattle.planus_write.specs.Parts.{finish_entry, sized_finish_entry}
use Rattle.planus_write.specs.Placing.{Outcome, then_does, PlacesEntry, Refuses}
use Rattle.planus_write.specs.declared.errors.BuildError.{BuildError}
use Rattle.planus_write.specs.declared.offset.Offset.{Offset}
use Rattle.planus_write.specs.contracts.builder.Builder.{the_row}

-- The entry's bytes were prepended, at a length that keeps every alignment constraint without
-- padding.
pub record PutsInFront (entry : Entry) (old : State) (distance : ℕ) (new : State) : Type 0 where
  pub puts : PlacesEntry entry [] old distance new
  pub whole : distance ≡ length new.bytes
  pub kept : new.delayed ≡ 0

abbrev pub WritesFront : Entry → Outcome ℕ
WritesFront entry old (Ok distance) new = PutsInFront entry old distance new
WritesFront entry old (Err error) new = Refuses entry [] old error new

abbrev pub Finishes : ℕ → Option (List ℕ) → State → ℕ → State → Type 0
Finishes root identifier old distance new =
    PutsInFront (finish_entry root identifier) old distance new

-- the finish of a prepared root was written, or the call failed
abbrev pub WritesRoot : ℕ → Option (List ℕ) → Outcome ℕ
WritesRoot root identifier = WritesFront (finish_entry root identifier)

-- the same, size-prefixed
abbrev pub WritesSizedRoot : ℕ → Option (List ℕ) → Outcome ℕ
WritesSizedRoot root identifier = WritesFront (sized_finish_entry root identifier)

-- The root is prepared, and then the finish is written.
abbrev pub FinishDoes : {T : Type 0} → Outcome (Offset T) → Option (List ℕ) → Outcome ℕ
FinishDoes {T} prepare identifier = then_does prepare (λ root. WritesRoot root.distance identifier)

-- the same, size-prefixed
abbrev pub SizedFinishDoes : {T : Type 0} → Outcome (Offset T) → Option (List ℕ) → Outcome ℕ
SizedFinishDoes {T} prepare identifier =
    then_does prepare (λ root. WritesSizedRoot root.distance identifier)

-- The builder after a call that prepends bytes and lends all of them.
abbrev pub LendsAll : Outcome ℕ → State → Result (Bor (List ℕ)) BuildError → State → Type 0
LendsAll does old (Ok bytes) new = does old (Ok (length new.bytes)) new × (bytes.now ≡ new.bytes)
LendsAll does old (Err error) new = does old (Err error) new

abbrev pub GivesAll : Outcome ℕ → State → List ℕ → Type 0
GivesAll does old bytes =
    (new : State) × does old (Ok (length new.bytes)) new × (bytes ≡ new.bytes)

-- the builder after a finish, and the slice lent
abbrev pub FinishLeaves : {T : Type 0} → Outcome (Offset T) → Option (List ℕ) → State
    → Result (Bor (List ℕ)) BuildError → State → Type 0
FinishLeaves {T} prepare identifier = LendsAll (FinishDoes prepare identifier)

abbrev pub FinishGives : {T : Type 0} → Outcome (Offset T) → Option (List ℕ) → State → List ℕ
    → Type 0
FinishGives {T} prepare identifier = GivesAll (FinishDoes prepare identifier)

-- the same, size-prefixed
abbrev pub SizedFinishLeaves : {T : Type 0} → Outcome (Offset T) → Option (List ℕ) → State
    → Result (Bor (List ℕ)) BuildError → State → Type 0
SizedFinishLeaves {T} prepare identifier = LendsAll (SizedFinishDoes prepare identifier)

abbrev pub SizedFinishGives : {T : Type 0} → Outcome (Offset T) → Option (List ℕ) → State → List ℕ
    → Type 0
SizedFinishGives {T} prepare identifier = GivesAll (SizedFinishDoes prepare identifier)

-- the builder is so once the lent slice is given back
abbrev pub EndsAs : MutBor State → (State → Type 0) → Fml
EndsAs builder Leaves = follows_so the_row the_row builder.ghost_name none (λ _ _. ⊤) Leaves
