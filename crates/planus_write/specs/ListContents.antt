use Rattle.std.specs.Prelude.{ℕ, List, [], map, Ok}
use Rattle.planus_read.specs.Values.{reference}
use Rattle.planus_write.specs.Items.{Item}
use Rattle.planus_write.specs.Parts.{list_entries}
use Rattle.planus_write.specs.History.{History}
use Rattle.planus_write.specs.Placing.{Outcome, then_does}
use Rattle.planus_write.specs.Preparing.{AnswersLast}
use Rattle.planus_write.specs.Preparing.{WritesEntries}
use Rattle.planus_write.specs.State.{State, IsHistoryOf}
use Rattle.planus_write.specs.Contents.{Content, FieldIs, Comes}

-- the items are prepared, and then the vector's entries written, or the call failed
abbrev pub WritesItems : {Y A : Type 0} → (List Y → Outcome (List A)) → (A → Item)
    → (size alignment : ℕ) → List Y → Outcome ℕ
WritesItems prepares encoding size alignment ys =
    then_does (prepares ys)
    (λ items. AnswersLast (WritesEntries (list_entries size alignment (map encoding items)) []))

-- Once the vector is written, a reference to it holds this.
pub record ListHasContent {Y A : Type 0} (all_may : List Y → State → Type 0)
    (prepares : List Y → Outcome (List A)) (encoding : A → Item) (size alignment : ℕ)
    (list : List Y → Content) : Type 0 where
  pub comes :
      (ys : List Y) (old : State) (distance : ℕ) (new : State) (history : History) → all_may ys old
      → WritesItems prepares encoding size alignment ys old (Ok distance) new
      → IsHistoryOf old history
      → Comes history new (λ after. FieldIs after (list ys) (reference distance))
