use Rattle.std.specs.Prelude.{◌≡◌, ℕ, ◌+◌, ◌*◌, ◌≤◌, List, [], ◌∷◌, ◌++◌, length, map}
use Rattle.std.specs.Prelude.{slice_get, Some, Result, Ok, Err, Vec}
use Rattle.std.specs.declared.alloc.Global.{Global}
use Rattle.std.specs.List.{AllByRecursion}
use Rattle.planus_write.specs.History.{Entry}
use Rattle.planus_read.specs.Values.{Plain}
use Rattle.planus_write.specs.Parts.{text_entry, byte_list_entry, list_entries, last_of}
use Rattle.planus_write.specs.Parts.{apart_entry}
use Rattle.planus_write.specs.Items.{Item}
use Rattle.planus_write.specs.State.{State, Grows}
use Rattle.planus_write.specs.Placing.{Outcome, then_does, WritesEntry}
use Rattle.planus_write.specs.declared.errors.BuildError.{BuildError}
use Rattle.planus_write.specs.declared.errors.BuildError.TheVariants.{OutOfMemory}
use Rattle.planus_write.specs.declared.offset.Offset.{Offset}

-- The laws of everything that can be prepared, by its precondition, its outcome, and the greatest
-- distance to which the result refers.
pub record IsLawful {X A : Type 0} (may : X → State → Type 0) (outcome : X → Outcome A)
    (reach : A → ℕ) : Type 0 where
  pub grows : (x : X) (old : State) (answer : Result A BuildError) (new : State) → may x old
      → outcome x old answer new → Grows old new
  pub reaches : (x : X) (old : State) (answer : A) (new : State) → may x old
      → outcome x old (Ok answer) new → reach answer ≤ length new.bytes
  pub stays : (x : X) (old new : State) → Grows old new → may x old → may x new

-- this is returned, and nothing is done
abbrev pub Answers : {A : Type 0} → A → Outcome A
Answers {A} answered old answer new = (answer ≡ Ok answered) × (new ≡ old)

-- the distance is returned as an offset
abbrev pub AsOffset : {T : Type 0} → Outcome ℕ → Outcome (Offset T)
AsOffset {T} writes old (Ok offset) new = writes old (Ok offset.distance) new
AsOffset {T} writes old (Err error) new = writes old (Err error) new

-- an offset is prepared already
abbrev pub IsPrepared : {T : Type 0} → Offset T → Outcome (Offset T)
IsPrepared offset = Answers offset

-- a string was written, or the call failed
abbrev pub WritesText : {T : Type 0} → List ℕ → Outcome (Offset T)
WritesText text old answer new = AsOffset (WritesEntry (text_entry text) []) old answer new

-- a byte vector was written, or the call failed
abbrev pub WritesByteList : {T : Type 0} → List ℕ → Outcome (Offset T)
WritesByteList bytes old answer new =
    AsOffset (WritesEntry (byte_list_entry bytes) []) old answer new

-- a struct was written by itself, or the call failed
abbrev pub WritesApart : {T : Type 0} → Plain → Outcome (Offset T)
WritesApart item old answer new = AsOffset (WritesEntry (apart_entry item) []) old answer new

-- Memory was reserved, or the allocation failed. The builder is as it was.
abbrev pub TakesMemory : Outcome (Unit {0})
TakesMemory old (Ok done) new = new ≡ old
TakesMemory old (Err error) new = (error ≡ OutOfMemory) × (new ≡ old)

-- The items were prepared, one after another.
abbrev pub PreparesAll : {X A : Type 0} → (X → Outcome A) → List X → Outcome (List A)
PreparesAll {X} {A} prepare [] = Answers []
PreparesAll {X} {A} prepare (x ∷ xs) =
    then_does (prepare x)
    (λ first. then_does (PreparesAll prepare xs) (λ others. Answers (first ∷ others)))

-- The entries were written in order, after those that got these distances; all distances are
-- returned.
abbrev pub WritesEntries : List Entry → List ℕ → Outcome (List ℕ)
WritesEntries [] got = Answers got
WritesEntries (entry ∷ entries) got =
    then_does (WritesEntry entry got)
    (λ distance. WritesEntries entries (got ++ distance ∷ []))

-- the last of the distances is returned
abbrev pub AnswersLast : Outcome (List ℕ) → Outcome ℕ
AnswersLast writes = then_does writes (λ got. Answers (last_of got))

-- memory is reserved, and then the items are prepared in order
abbrev pub PreparesItems : {X A : Type 0} → (X → Outcome A) → List X → Outcome (List A)
PreparesItems {X} {A} prepare xs = then_does TakesMemory (λ had. PreparesAll prepare xs)

abbrev pub AllMay : {X : Type 0} → (X → State → Type 0) → List X → State → Type 0
AllMay {X} may xs state = AllByRecursion (λ x. may x state) xs

-- The laws of items of vectors; see `IsLawful`.
pub record AreLawful {X A : Type 0} (may : X → State → Type 0) (outcome : X → Outcome A)
    (all_may : List X → State → Type 0) (prepares : List X → Outcome (List A))
    (reach : A → ℕ) : Type 0 where
  pub each_may : (xs : List X) (old : State) → all_may xs old → AllMay may xs old
  pub grow : (xs : List X) (old : State) (answer : Result (List A) BuildError) (new : State)
      → all_may xs old → prepares xs old answer new → Grows old new
  pub reach_all : (xs : List X) (old : State) (values : List A) (new : State) → all_may xs old
      → prepares xs old (Ok values) new
      → AllByRecursion (λ value. reach value ≤ length new.bytes) values
  pub stay : (xs : List X) (old new : State) → Grows old new → all_may xs old → all_may xs new
  pub one_by_one : (xs : List X) (old : State) (values : List A) (new : State) → all_may xs old
      → PreparesAll outcome xs old (Ok values) new → prepares xs old (Ok values) new

-- A vector was written, or the call failed: its items are prepared, and then its entries written.
abbrev pub WritesList : {X A T : Type 0} → (List X → Outcome (List A)) → (A → Item)
    → (size alignment : ℕ) → List X → Outcome (Offset T)
WritesList {X} {A} {T} prepares encoding size alignment xs old answer new =
    AsOffset
    (then_does (prepares xs)
    (λ items. AnswersLast (WritesEntries (list_entries size alignment (map encoding items)) [])))
    old answer new

abbrev pub WritesPrepared : {T : Type 0} → (size alignment : ℕ) → List Item → Outcome (Offset T)
WritesPrepared {T} size alignment items old answer new =
    AsOffset (AnswersLast (WritesEntries (list_entries size alignment items) [])) old answer new

abbrev pub prepared_list : {A : Type 0} → Result (Vec A Global) BuildError
    → Result (List A) BuildError
prepared_list {A} (Ok items) = Ok items.items
prepared_list {A} (Err error) = Err error

-- Items of this size may be encoded from the place on: each refers to a value after itself.
pub record MayStand {A : Type 0} (reach : A → ℕ) (size place : ℕ) (items : List A) : Type 0 where
  pub inside : length items * size ≤ place
  pub reached : (i : ℕ) (item : A) → slice_get items i ≡ Some item → reach item + i * size ≤ place
