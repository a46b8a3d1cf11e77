-- The laws of what values hold once they are prepared.
use Rattle.std.specs.Prelude.{◌≡◌, ℕ, List, [], ◌∷◌, length, None, Ok}
use Rattle.std.proofs.Common.{refl, subst, sym}
use Rattle.planus_read.specs.Plain.{IsLayout, Shape}
use Rattle.planus_read.specs.Values.{Value, Field, Plain, reference, text, byte_list, union_vector}
use Rattle.planus_read.specs.Values.{apart}
use Rattle.planus_write.specs.Kept.{IsKept}
use Rattle.planus_write.specs.lemmas.Laws.{extends_itself}
use Rattle.planus_write.specs.Parts.{IsWritten, entries_of, last_of, Named, named_by}
use Rattle.planus_write.specs.History.{History}
use Rattle.planus_write.specs.Placing.{Outcome}
use Rattle.planus_write.specs.Preparing.{Answers, WritesEntries, WritesByteList, WritesText}
use Rattle.planus_write.specs.Preparing.{WritesApart}
use Rattle.planus_write.specs.State.{State, IsHistoryOf, Extends}
use Rattle.planus_write.specs.declared.offset.Offset.{Offset}
use Rattle.planus_write.specs.lemmas.PutEntries.{entries_put}
use Rattle.planus_write.specs.lemmas.StandingLaws.{values_are_kept}
use Rattle.planus_write.specs.lemmas.Staying.{kept_stays}
use Rattle.planus_write.specs.Contents.{Content, item, value, values, written, union_tags}
use Rattle.planus_write.specs.Contents.{union_values, written_tags, written_values, named_at}
use Rattle.planus_write.specs.Contents.{named_at_both, AllKept, Unions, no_unions, union_and}
use Rattle.planus_write.specs.Contents.{UnionsAre, FieldIs, Comes, PreparesContent}

pub all_stay : (before after : History) (contents : List Value) (distances : List ℕ)
    → Extends before after → AllKept before contents distances → AllKept after contents distances
all_stay before after [] [] extends kept = tt
all_stay before after (content ∷ contents) (distance ∷ distances) extends kept = (
  kept_stays before after content (named_at distance) extends kept.0,
  all_stay before after contents distances extends kept.1,
)
all_stay before after [] (distance ∷ distances) extends kept = kept
all_stay before after (content ∷ contents) [] extends kept = kept

mutual
  pub field_stays : (before after : History) (content : Content) (field : Field)
      → Extends before after
      → FieldIs before content field → FieldIs after content field
  field_stays before after (item content) field extends is = is
  field_stays before after (value content) field extends is =
      (is.0, is.1, kept_stays before after content (named_at is.0) extends is.2)
  field_stays before after (values contents) field extends is = (
    is.0,
    is.1,
    (
      is.2.0,
      kept_stays before after _ (named_at is.0) extends is.2.1,
      all_stay before after contents is.2.0 extends is.2.2,
    ),
  )
  field_stays before after (written distance) field extends is = is
  field_stays before after (union_tags contents) field extends is = (
    is.0,
    is.1,
    is.2,
    (
      is.3.0,
      kept_stays before after (union_vector is.3.0) (named_at_both is.0 is.1) extends is.3.1,
      unions_stay before after contents is.3.0 extends is.3.2,
    ),
  )
  field_stays before after (union_values contents) field extends is = (
    is.0,
    is.1,
    is.2,
    (
      is.3.0,
      kept_stays before after (union_vector is.3.0) (named_at_both is.0 is.1) extends is.3.1,
      unions_stay before after contents is.3.0 extends is.3.2,
    ),
  )
  field_stays before after (written_tags distance) field extends is = is
  field_stays before after (written_values distance) field extends is = is

  pub unions_stay : (before after : History) (contents : Unions) (unions : List (ℕ × ℕ))
      → Extends before after → UnionsAre before contents unions → UnionsAre after contents unions
  unions_stay before after no_unions [] extends are = tt
  unions_stay before after (union_and tag content others) (union ∷ unions) extends are = (
    are.0,
    field_stays before after content (reference union.1) extends are.1,
    unions_stay before after others unions extends are.2,
  )
  unions_stay before after no_unions (union ∷ unions) extends are = are
  unions_stay before after (union_and tag content others) [] extends are = are

pub stays_there : (history : History) (old new : State) (Holds : History → Type 0) → new ≡ old
    → IsHistoryOf old history → Holds history → Comes history new Holds
stays_there history old new Holds same is_history holds = (
  history,
  subst (λ state. IsHistoryOf state history) (sym same) is_history,
  extends_itself history,
  holds,
)

pub ready_prepared : {A : Type 0} {may : A → State → Type 0} (content : A → Content)
    (field : A → Field) → ((a : A) (history : History) → FieldIs history (content a) (field a))
    → PreparesContent may Answers content field
ready_prepared {A} {may} content field is = record {
  comes = λ a old prepared new history may done is_history.
      (let same : a ≡ prepared = cc in
      stays_there history old new
      (λ after. FieldIs after (content a) (field prepared)) done.1 is_history
      (subst (λ (b : A). FieldIs history (content a) (field b)) same (is a history)));
}

pub content_prepared_as : {X Y A : Type 0} {may : X → State → Type 0} {outcome : X → Outcome A}
    {content : X → Content} {field : A → Field} (of : Y → X)
    → PreparesContent may outcome content field
    → PreparesContent (λ y old. may (of y) old) (λ y old answer new. outcome (of y) old answer new)
    (λ y. content (of y)) field
content_prepared_as of lawful = record { comes = λ y. lawful.comes (of y) }

pub value_added : (content : Value) (old : State) (got : List ℕ) (new : State) (history : History)
    → WritesEntries (entries_of content) [] old (Ok got) new → IsHistoryOf old history
    → IsWritten (length history.written.bytes) content
    → named_by content got ≡ record { distance = last_of got; tags = None }
    → Comes history new (λ after. IsKept after content (named_at (last_of got)))
value_added content old got new history writes is_history is_written named =
    let placed = entries_put (entries_of content) [] old got new history writes is_history in
    let kept = values_are_kept old.settings content history got placed.0 is_written is_history.kept
    placed.1 in (
      placed.0,
      placed.2,
      kept.2,
      subst (λ (name : Named). IsKept placed.0 content name) named
          kept.0,
    )

pub text_prepared : {T X : Type 0} {may : X → State → Type 0} (bytes : X → List ℕ)
    → PreparesContent {A = Offset T} may (λ x old answer new. WritesText (bytes x) old answer new)
    (λ x. value (text (bytes x))) (λ offset. reference offset.distance)
text_prepared bytes = record {
  comes = λ x old offset new history may done is_history.
      (let added = value_added (text (bytes x)) old (offset.distance ∷ []) new history
      (offset.distance, new, done, (refl, refl)) is_history tt refl in
      (added.0, added.1, added.2, (offset.distance, refl, added.3)));
}

pub byte_list_prepared : {T X : Type 0} {may : X → State → Type 0} (bytes : X → List ℕ)
    → PreparesContent {A = Offset T} may
    (λ x old answer new. WritesByteList (bytes x) old answer new)
    (λ x. value (byte_list (bytes x))) (λ offset. reference offset.distance)
byte_list_prepared bytes = record {
  comes = λ x old offset new history may done is_history.
      (let added = value_added (byte_list (bytes x)) old (offset.distance ∷ []) new history
      (offset.distance, new, done, (refl, refl)) is_history tt refl in
      (added.0, added.1, added.2, (offset.distance, refl, added.3)));
}

pub apart_prepared : {T X : Type 0} {may : X → State → Type 0} (item_of : X → Plain)
    → ((x : X) → IsLayout (length (item_of x).bytes) (item_of x).alignment)
    → PreparesContent {A = Offset T} may
    (λ x old answer new. WritesApart (item_of x) old answer new)
    (λ x. value (apart (item_of x))) (λ offset. reference offset.distance)
apart_prepared item_of is_layout = record {
  comes = λ x old offset new history may done is_history.
      (let added = value_added (apart (item_of x)) old (offset.distance ∷ []) new history
      (offset.distance, new, done, (refl, refl)) is_history (is_layout x) refl in
      (added.0, added.1, added.2, (offset.distance, refl, added.3)));
}

pub plain_prepared : {T X A : Type 0} {may : X → State → Type 0} {size alignment : ℕ}
    (shape : Shape A size alignment) (plain_of : X → A)
    → PreparesContent {A = Offset T} may
    (λ x old answer new. WritesApart
    (record { bytes = shape.encoded (plain_of x); alignment = alignment }) old answer new)
    (λ x. value (apart (record { bytes = shape.encoded (plain_of x); alignment = alignment })))
    (λ offset. reference offset.distance)
plain_prepared {alignment = alignment} shape plain_of =
    apart_prepared
    (λ x. record { bytes = shape.encoded (plain_of x); alignment = alignment })
    (λ x. subst (λ size. IsLayout size alignment) (sym (shape.sized (plain_of x))) shape.layout)
