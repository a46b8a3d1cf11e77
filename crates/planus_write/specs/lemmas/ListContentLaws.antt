-- The laws of what vectors hold.
use Rattle.std.specs.Prelude.{◌≡◌, ℕ, ◌≤◌, List, [], ◌∷◌, length, map, Ok}
use Rattle.std.specs.List.{AllByRecursion}
use Rattle.std.proofs.Common.{refl, subst, sym, ap}
use Rattle.planus_read.specs.Values.{Value, reference, plain_list, reference_list}
use Rattle.planus_write.specs.Items.{Item, plain_item, reference_item}
use Rattle.planus_write.specs.Kept.{IsKept}
use Rattle.planus_write.specs.lemmas.Laws.{extends_on, extends_itself}
use Rattle.planus_write.specs.lemmas.ListLaws.{plain_items_are, reference_items_are}
use Rattle.planus_write.specs.lemmas.ListLaws.{may_still}
use Rattle.planus_write.specs.Parts.{entries_of, list_entries, last_of}
use Rattle.planus_write.specs.History.{History, Entry}
use Rattle.planus_write.specs.Placing.{Outcome}
use Rattle.planus_write.specs.InBuilder.{AllIn}
use Rattle.planus_read.specs.Plain.{IsLayout}
use Rattle.planus_write.specs.Preparing.{AllMay, AreLawful, Answers, IsLawful, PreparesAll}
use Rattle.planus_write.specs.Preparing.{PreparesItems, WritesEntries, WritesList}
use Rattle.planus_write.specs.State.{State, IsHistoryOf}
use Rattle.planus_write.specs.declared.offset.Offset.{Offset}
use Rattle.planus_write.specs.lemmas.Staying.{kept_stays}
use Rattle.planus_write.specs.Contents.{Content, value, values, named_at, AllKept, Comes}
use Rattle.planus_write.specs.Contents.{PreparesContent}
use Rattle.planus_write.specs.lemmas.ContentLaws.{all_stay, value_added}
use Rattle.planus_write.specs.ListContents.{WritesItems, ListHasContent}

pub list_prepared : {X Y A T : Type 0} {all_may : List Y → State → Type 0}
    {prepares : List Y → Outcome (List A)} {encoding : A → Item} {size alignment : ℕ}
    {list : List Y → Content} (items : X → List Y)
    → ListHasContent all_may prepares encoding size alignment list
    → PreparesContent {A = Offset T} (λ x old. all_may (items x) old)
    (λ x old answer new. WritesList prepares encoding size alignment (items x) old answer new)
    (λ x. list (items x)) (λ offset. reference offset.distance)
list_prepared items lawful = record {
  comes = λ x old offset new history mays done is_history.
      lawful.comes (items x) old offset.distance new history mays done is_history;
}

record IsPut {Y A : Type 0} (prepares : List Y → Outcome (List A)) (encoding : A → Item)
    (size alignment : ℕ) (ys : List Y) (old : State) (distance : ℕ) (new : State) : Type 0 where
  items : List A
  between : State
  prepared : prepares ys old (Ok items) between
  got : List ℕ
  put : WritesEntries (list_entries size alignment (map encoding items)) [] between (Ok got) new
  at : distance ≡ last_of got

is_put : {Y A : Type 0} (prepares : List Y → Outcome (List A)) (encoding : A → Item)
    (size alignment : ℕ) (ys : List Y) (old : State) (distance : ℕ) (new : State)
    → WritesItems prepares encoding size alignment ys old (Ok distance) new
    → IsPut prepares encoding size alignment ys old distance new
is_put prepares encoding size alignment ys old distance new done = record {
  items = done.0;
  between = done.1;
  prepared = done.2;
  got = done.3.0;
  put = subst
      (λ (state : State).
      WritesEntries (list_entries size alignment (map encoding done.0)) [] done.1
      (Ok done.3.0) state)
      (sym done.3.3.1) done.3.2;
  at = cc;
}

ready_put : {Y : Type 0} (encoding : Y → Item) (size alignment : ℕ) (ys : List Y) (old : State)
    (distance : ℕ) (new : State)
    → WritesItems Answers encoding size alignment ys old (Ok distance) new
    → (got : List ℕ)
    × WritesEntries (list_entries size alignment (map encoding ys)) [] old (Ok got) new
    × (distance ≡ last_of got)
ready_put {Y} encoding size alignment ys old distance new done =
    let put = is_put Answers encoding size alignment ys old distance new done in
    let items : put.items ≡ ys = (let prepared = put.prepared in cc) in (
      put.got,
      subst
          (λ (state : State).
          WritesEntries (list_entries size alignment (map encoding ys)) [] state (Ok put.got) new)
          put.prepared.1
          (subst
          (λ (items : List Y).
          WritesEntries (list_entries size alignment (map encoding items)) [] put.between
          (Ok put.got)
          new)
          items put.put),
      put.at,
    )

all_sized : {X : Type 0} (bytes : X → List ℕ) (size : ℕ) → ((x : X) → length (bytes x) ≡ size)
    → (xs : List X) → AllByRecursion (λ item. length item ≡ size) (map bytes xs)
all_sized bytes size sized [] = tt
all_sized bytes size sized (x ∷ xs) = (sized x, all_sized bytes size sized xs)

pub plain_list_has_content : {Y : Type 0} {all_may : List Y → State → Type 0} (bytes : Y → List ℕ)
    (size alignment : ℕ) → IsLayout size alignment → ((y : Y) → length (bytes y) ≡ size)
    → ListHasContent all_may Answers (λ y. plain_item (bytes y)) size alignment
    (λ ys. value (plain_list size alignment (map bytes ys)))
plain_list_has_content bytes size alignment layout sized = record {
  comes = λ ys old distance new history mays done is_history.
      (let content = plain_list size alignment (map bytes ys) in
      let put = ready_put (λ y. plain_item (bytes y)) size alignment ys old distance new done in
      let entries : list_entries size alignment (map (λ y. plain_item (bytes y)) ys)
      ≡ entries_of content
      = ap (list_entries size alignment) (plain_items_are bytes ys) in
      let added = value_added content old put.0 new history
      (subst (λ (all : List Entry). WritesEntries all [] old (Ok put.0) new) entries put.1)
      is_history
      (record {
        sizes = all_sized bytes size sized ys;
        positive = layout.positive;
        multiple = layout.multiple;
        power = (layout.power.0, layout.power.2);
      }) refl in
      (added.0, added.1, added.2, (last_of put.0, ap (λ d. reference d) put.2, added.3)));
}

offsets_lie : {T : Type 0} (offsets : List (Offset T)) (old : State) (history : History)
    → IsHistoryOf old history
    → AllIn old offsets
    → AllByRecursion (λ distance. distance ≤ length history.written.bytes)
    (map (λ offset. offset.distance) offsets)
offsets_lie [] old history is_history may = tt
offsets_lie (offset ∷ offsets) old history is_history may = (
  subst (λ (bytes : List ℕ). offset.distance ≤ length bytes) (sym is_history.bytes) may.0,
  offsets_lie offsets old history is_history may.1,
)

abbrev distances_of : {T : Type 0} → List (Offset T) → List ℕ
distances_of offsets = map (λ offset. offset.distance) offsets

abbrev references : {T : Type 0} → List (Offset T) → List Entry
references offsets = list_entries 4 4 (map (λ offset. reference_item offset.distance) offsets)

references_are : {T : Type 0} (offsets : List (Offset T))
    → references offsets ≡ entries_of (reference_list (distances_of offsets))
references_are {T} offsets =
    ap (list_entries 4 4) (reference_items_are (λ (offset : Offset T). offset.distance) offsets)

pub offset_list_has_content : {T : Type 0}
    → ListHasContent {Y = Offset T} (λ offsets old. AllIn old offsets) Answers
    (λ offset. reference_item offset.distance) 4 4
    (λ offsets. value (reference_list (map (λ offset. offset.distance) offsets)))
offset_list_has_content {T} = record {
  comes = λ offsets old distance new history mays done is_history.
      (let put = ready_put (λ (offset : Offset T). reference_item offset.distance) 4 4 offsets old
      distance new done in
      let added = value_added (reference_list (distances_of offsets)) old put.0 new history
      (subst (λ (all : List Entry). WritesEntries all [] old (Ok put.0) new)
      (references_are offsets) put.1) is_history
      (offsets_lie offsets old history is_history mays) refl in
      (added.0, added.1, added.2, (last_of put.0, ap (λ d. reference d) put.2, added.3)));
}

kept_lie : (history : History) (contents : List Value) (distances : List ℕ)
    → AllKept history contents distances
    → AllByRecursion (λ distance. distance ≤ length history.written.bytes) distances
kept_lie history [] [] kept = tt
kept_lie history (content ∷ contents) (distance ∷ distances) kept =
    (kept.0.reached, kept_lie history contents distances kept.1)
kept_lie history [] (distance ∷ distances) kept = elim kept [ ]
kept_lie history (content ∷ contents) [] kept = elim kept [ ]

module _ {X S : Type 0} {may : X → State → Type 0} {outcome : X → Outcome (Offset S)}
    (lawful : IsLawful may outcome (λ offset. offset.distance)) (content : X → Value)
    (prepares : PreparesContent may outcome (λ x. value (content x))
    (λ offset. reference offset.distance)) where
  one_prepared : (x : X) (old : State) (offset : Offset S) (new : State) (history : History)
      → may x old
      → outcome x old (Ok offset) new → IsHistoryOf old history
      → Comes history new (λ after. IsKept after (content x) (named_at offset.distance))
  one_prepared x old offset new history mays done is_history =
      let near = prepares.comes x old offset new history mays done is_history in
      let at : near.3.0 ≡ offset.distance = cc in (
        near.0,
        near.1,
        near.2,
        subst (λ (d : ℕ). IsKept near.0 (content x) (named_at d)) at near.3.2,
      )

  all_prepared : (xs : List X) (old : State) (offsets : List (Offset S)) (new : State)
      (history : History)
      → AllMay may xs old → PreparesAll outcome xs old (Ok offsets) new → IsHistoryOf old history
      → Comes history new (λ after. AllKept after (map content xs) (distances_of offsets))
  all_prepared [] old offsets new history mays done is_history =
      let same : [] ≡ offsets = cc in (
        history,
        subst (λ state. IsHistoryOf state history) (sym done.1) is_history,
        extends_itself history,
        subst (λ (offsets : List (Offset S)). AllKept history [] (distances_of offsets)) same tt,
      )
  all_prepared (x ∷ xs) old offsets new history mays done is_history =
      let between = done.1 in
      let near = one_prepared x old done.0 between history mays.0 done.2 is_history in
      let rest = may_still may outcome (λ offset. offset.distance) lawful xs old between
      (lawful.grows x old (Ok done.0) between mays.0 done.2) mays.1 in
      let far = all_prepared xs between done.3.0 done.3.1 near.0 rest done.3.2 near.1 in
      let same : done.0 ∷ done.3.0 ≡ offsets = cc in
      let first = kept_stays near.0 far.0 (content x) (named_at done.0.distance) far.2 near.3 in (
        far.0,
        subst (λ state. IsHistoryOf state far.0) (sym done.3.3.1) far.1,
        extends_on history near.0 far.0 near.2 far.2,
        subst
            (λ (offsets : List (Offset S)).
            AllKept far.0 (map content (x ∷ xs)) (distances_of offsets)) same (first, far.3),
      )

  pub values_have_content :
      {all_may : List X → State → Type 0}
      → ((xs : List X) (old : State) → all_may xs old → AllMay may xs old)
      → ListHasContent all_may (λ xs. PreparesItems outcome xs)
      (λ offset. reference_item offset.distance) 4 4 (λ xs. values (map content xs))
  values_have_content each = record {
    comes = λ xs old distance new history mays done is_history.
        (let put = is_put (λ xs. PreparesItems outcome xs)
        (λ (offset : Offset S). reference_item offset.distance) 4 4 xs old distance new done in
        let prepared = subst
        (λ (state : State). PreparesAll outcome xs state (Ok put.items) put.between)
        put.prepared.2 put.prepared.3 in
        let all = all_prepared xs old put.items put.between history (each xs old mays) prepared
        is_history in
        let added = value_added (reference_list (distances_of put.items)) put.between put.got new
        all.0
        (subst (λ (all : List Entry). WritesEntries all [] put.between (Ok put.got) new)
        (references_are put.items) put.put) all.1
        (kept_lie all.0 (map content xs) (distances_of put.items) all.3) refl in (
          added.0,
          added.1,
          extends_on history all.0 added.0 all.2 added.2,
          (
            last_of put.got,
            ap (λ d. reference d) put.at,
            (
              distances_of put.items,
              added.3,
              all_stay all.0 added.0 (map content xs) (distances_of put.items) added.2 all.3,
            ),
          ),
        ));
  }

all_as : {X Y A : Type 0} (outcome : X → Outcome A) (of : Y → X) (ys : List Y) (old : State)
    (items : List A) (new : State)
    → PreparesAll (λ y old answer new. outcome (of y) old answer new) ys old (Ok items) new
    → PreparesAll outcome (map of ys) old (Ok items) new
all_as outcome of [] old items new done = done
all_as outcome of (y ∷ ys) old items new done = (
  done.0,
  done.1,
  done.2,
  (done.3.0, done.3.1, all_as outcome of ys done.1 done.3.0 done.3.1 done.3.2, done.3.3),
)

pub list_prepared_as : {X Y A : Type 0} {may : X → State → Type 0} {outcome : X → Outcome A}
    {all_may : List X → State → Type 0} {prepares : List X → Outcome (List A)} {reach : A → ℕ}
    {encoding : A → Item} {size alignment : ℕ} {list : List X → Content} (of : Y → X)
    → AreLawful may outcome all_may prepares reach
    → ListHasContent all_may prepares encoding size alignment list
    → ListHasContent (λ ys old. all_may (map of ys) old)
    (λ ys. PreparesItems (λ y old answer new. outcome (of y) old answer new) ys)
    encoding size alignment (λ ys. list (map of ys))
list_prepared_as {X} {Y} {A} {outcome = outcome} {prepares = prepares} of are lawful = record {
  comes = λ ys old distance new history mays done is_history.
      lawful.comes (map of ys) old distance new history mays (
        done.0,
        done.1,
        are.one_by_one (map of ys) old done.0 done.1 mays
            (subst (λ (state : State). PreparesAll outcome (map of ys) state (Ok done.0) done.1)
            done.2.2
            (all_as outcome of ys done.2.1 done.0 done.1 done.2.3)),
        done.3,
      ) is_history;
}
