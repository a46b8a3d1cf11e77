-- The laws of vectors.
use Rattle.std.specs.Prelude.{◌≡◌, ℕ, ◌≤◌, List, [], ◌∷◌, ◌++◌, length, map, Result, Ok, Err, ⊤}
use Rattle.std.specs.List.{AllByRecursion}
use Rattle.std.proofs.Common.{refl, subst, sym, ap, ◌∙◌, inl, inr, arith}
use Rattle.planus_write.specs.History.{Entry}
use Rattle.planus_write.specs.Parts.{list_entries, last_of}
use Rattle.planus_write.specs.Items.{Item, plain_item, reference_item}
use Rattle.planus_write.specs.State.{State, Grows}
use Rattle.planus_write.specs.Placing.{Outcome, then_does, WritesEntry}
use Rattle.planus_write.specs.Preparing.{IsLawful, Answers, TakesMemory, PreparesAll, PreparesItems}
use Rattle.planus_write.specs.Preparing.{WritesEntries, AnswersLast, WritesList, AllMay, AreLawful}
use Rattle.planus_write.specs.InBuilder.{AllIn}
use Rattle.planus_write.specs.lemmas.Laws.{unchanged_grows, grows_on, writes_entry_grows}
use Rattle.planus_write.specs.lemmas.Laws.{as_offset_grows, reached_still, lawful_of}
use Rattle.planus_write.specs.lemmas.Laws.{offset_is_lawful}
use Rattle.planus_write.specs.declared.errors.BuildError.{BuildError}
use Rattle.planus_write.specs.declared.offset.Offset.{Offset}

abbrev pub GrowsFrom : {A : Type 0} → State → Outcome A → Type 0
GrowsFrom {A} old does =
    (answer : Result A BuildError) (new : State) → does old answer new → Grows old new

pub then_grows : {A B : Type 0} (old : State) (first : Outcome A) (second : A → Outcome B)
    → GrowsFrom old first
    → ((a : A) (between : State) → first old (Ok a) between → GrowsFrom between (second a))
    → GrowsFrom old (then_does first second)
then_grows old first second one two (Ok b) new h =
    grows_on old h.1 new (one (Ok h.0) h.1 h.2) (two h.0 h.1 h.2 (Ok b) new h.3)
then_grows old first second one two (Err error) new (inl h) = one (Err error) new h
then_grows old first second one two (Err error) new (inr h) =
    grows_on old h.1 new (one (Ok h.0) h.1 h.2) (two h.0 h.1 h.2 (Err error) new h.3)

pub answers_grow : {A : Type 0} (answered : A) (old : State) → GrowsFrom old (Answers answered)
answers_grow answered old answer new h = unchanged_grows old new h.1

pub memory_grows : (old : State) → GrowsFrom old TakesMemory
memory_grows old (Ok done) new h = unchanged_grows old new h
memory_grows old (Err error) new h = unchanged_grows old new h.1

pub entries_grow : (entries : List Entry) (got : List ℕ) (old : State)
    → GrowsFrom old (WritesEntries entries got)
entries_grow [] got old answer new h = unchanged_grows old new h.1
entries_grow (entry ∷ entries) got old answer new h =
    then_grows old (WritesEntry entry got)
    (λ distance. WritesEntries entries (got ++ distance ∷ []))
    (writes_entry_grows entry got old)
    (λ distance between first. entries_grow entries (got ++ distance ∷ []) between)
    answer new h

module _ {X A : Type 0} (may : X → State → Type 0) (outcome : X → Outcome A) (reach : A → ℕ)
    (lawful : IsLawful may outcome reach) where
  pub may_still : (xs : List X) (old new : State) → Grows old new → AllMay may xs old
      → AllMay may xs new
  may_still [] old new grows h = tt
  may_still (x ∷ xs) old new grows h =
      (lawful.stays x old new grows h.0, may_still xs old new grows h.1)

  pub all_grow : (xs : List X) (old : State) → AllMay may xs old
      → GrowsFrom old (PreparesAll outcome xs)
  all_grow [] old h answer new done = unchanged_grows old new done.1
  all_grow (x ∷ xs) old h answer new done =
      then_grows old (outcome x)
      (λ first. then_does (PreparesAll outcome xs) (λ others. Answers (first ∷ others)))
      (λ answer new done. lawful.grows x old answer new h.0 done)
      (λ first between done.
      then_grows between (PreparesAll outcome xs) (λ others. Answers (first ∷ others))
      (all_grow xs between
      (may_still xs old between (lawful.grows x old (Ok first) between h.0 done) h.1))
      (λ others after rest. answers_grow (first ∷ others) after))
      answer new done

  pub items_grow : (xs : List X) (old : State) → AllMay may xs old
      → GrowsFrom old (PreparesItems outcome xs)
  items_grow xs old h =
      then_grows old TakesMemory (λ had. PreparesAll outcome xs) (memory_grows old)
      (λ had between done. all_grow xs between (subst (AllMay may xs) (sym done) h))

  pub all_reach : (xs : List X) (old : State) (all : List A) (new : State) → AllMay may xs old
      → PreparesAll outcome xs old (Ok all) new
      → AllByRecursion (λ a. reach a ≤ length new.bytes) all
  all_reach [] old all new h done =
      let none : all ≡ [] = cc in
      subst (λ (items : List A). AllByRecursion (λ a. reach a ≤ length new.bytes) items) (sym none)
      tt
  all_reach (x ∷ xs) old all new h done =
      let still = may_still xs old done.1 (lawful.grows x old (Ok done.0) done.1 h.0 done.2) h.1 in
      let others : List A = done.3.0 in
      let grown : Grows done.1 done.3.1 = all_grow xs done.1 still (Ok others) done.3.1 done.3.2 in
      let first : reach done.0 ≤ length done.3.1.bytes
      = reached_still (reach done.0) done.1 done.3.1 grown
      (lawful.reaches x old done.0 done.1 h.0 done.2) in
      let same : all ≡ done.0 ∷ others = cc in
      subst (λ (items : List A). AllByRecursion (λ a. reach a ≤ length new.bytes) items) (sym same)
      (subst
      (λ (state : State). AllByRecursion (λ a. reach a ≤ length state.bytes) (done.0 ∷ others))
      (sym done.3.3.1)
      (first, all_reach xs done.1 others done.3.1 still done.3.2))

pub ready_items : {A : Type 0} (xs : List A) (old : State) (items : List A) (new : State)
    → PreparesAll Answers xs old (Ok items) new → (items ≡ xs) × (new ≡ old)
ready_items [] old items new h = (let same : items ≡ [] = cc in same, h.1)
ready_items {A} (x ∷ xs) old items new h =
    let rest = ready_items xs h.1 h.3.0 h.3.1 h.3.2 in
    let first : h.0 ≡ x = cc in
    let all : items ≡ h.0 ∷ h.3.0 = cc in (
      all ∙ ap (λ (a : A). a ∷ h.3.0) first ∙ ap (λ (others : List A). x ∷ others) rest.0,
      h.3.3.1 ∙ rest.1 ∙ h.2.1,
    )

pub ready_is_given : {A : Type 0} (xs : List A) (old : State) (error : BuildError) (new : State)
    → PreparesAll Answers xs old (Err error) new → ⊥
ready_is_given [] old error new h = (cc)
ready_is_given (x ∷ xs) old error new (inl h) = (cc)
ready_is_given (x ∷ xs) old error new (inr (a, between, first, inl h)) =
    ready_is_given xs between error new h
ready_is_given (x ∷ xs) old error new (inr (a, between, first, inr h)) = (cc)

pub all_free : {X : Type 0} (xs : List X) (old : State) → AllMay (λ x state. ⊤) xs old
all_free [] old = tt
all_free (x ∷ xs) old = (tt, all_free xs old)

all_reach_nothing : {X : Type 0} (xs : List X) (old : State)
    → AllByRecursion (λ x. 0 ≤ length old.bytes) xs
all_reach_nothing [] old = tt
all_reach_nothing (x ∷ xs) old = (omega arith, all_reach_nothing xs old)

all_may_of : {X Y : Type 0} (may : X → State → Type 0) (of : Y → X) (ys : List Y) (old : State)
    → AllMay may (map of ys) old → AllMay (λ y state. may (of y) state) ys old
all_may_of may of [] old mays = tt
all_may_of may of (y ∷ ys) old mays = (mays.0, all_may_of may of ys old mays.1)

pub items_are_lawful : {X A : Type 0} {may : X → State → Type 0} {outcome : X → Outcome A}
    {reach : A → ℕ} → IsLawful may outcome reach
    → AreLawful may outcome (λ xs old. AllMay may xs old) (λ xs. PreparesItems outcome xs) reach
items_are_lawful {may = may} {outcome = outcome} {reach = reach} lawful = record {
  each_may = λ xs old h. h;
  grow = λ xs old answer new h done. items_grow may outcome reach lawful xs old h answer new done;
  reach_all = λ xs old values new h done.
      all_reach may outcome reach lawful xs done.1 values new
      (subst (AllMay may xs) (sym done.2) h) done.3;
  stay = λ xs old new grows h. may_still may outcome reach lawful xs old new grows h;
  one_by_one = λ xs old values new h done. (tt, old, refl, done);
}

pub free_items_are_lawful : {X A : Type 0} {outcome : X → Outcome A} {reach : A → ℕ}
    → IsLawful (λ x old. ⊤) outcome reach
    → AreLawful (λ x old. ⊤) outcome (λ xs old. ⊤) (λ xs. PreparesItems outcome xs) reach
free_items_are_lawful {X} {A} {outcome} {reach} lawful = record {
  each_may = λ xs old h. all_free xs old;
  grow = λ xs old answer new h done. items.grow xs old answer new (all_free xs old) done;
  reach_all = λ xs old values new h done. items.reach_all xs old values new (all_free xs old) done;
  stay = λ xs old new grows h. tt;
  one_by_one = λ xs old values new h done. (tt, old, refl, done);
}
  where
    items : AreLawful (λ x old. ⊤) outcome (λ xs old. AllMay (λ x old. ⊤) xs old)
        (λ xs. PreparesItems outcome xs) reach
    items = items_are_lawful lawful

pub items_are_lawful_as : {X Y A : Type 0} {may : X → State → Type 0} {outcome : X → Outcome A}
    {all_may : List X → State → Type 0} {prepares : List X → Outcome (List A)} {reach : A → ℕ}
    (of : Y → X) → IsLawful may outcome reach → AreLawful may outcome all_may prepares reach
    → AreLawful (λ y old. may (of y) old) (λ y old answer new. outcome (of y) old answer new)
    (λ ys old. all_may (map of ys) old)
    (λ ys. PreparesItems (λ y old answer new. outcome (of y) old answer new) ys) reach
items_are_lawful_as {X} {Y} {A} {may} {outcome} {all_may} {prepares} {reach} of lawful are =
    record {
      each_may = λ ys old h. each ys old h;
      grow = λ ys old answer new h done. items.grow ys old answer new (each ys old h) done;
      reach_all = λ ys old values new h done. items.reach_all ys old values new
          (each ys old h) done;
      stay = λ ys old new grows h. are.stay (map of ys) old new grows h;
      one_by_one = λ ys old values new h done. (tt, old, refl, done);
    }
  where
    each : (ys : List Y) (old : State) → all_may (map of ys) old
        → AllMay (λ y old. may (of y) old) ys old
    each ys old h = all_may_of may of ys old (are.each_may (map of ys) old h)

    items : AreLawful (λ y old. may (of y) old) (λ y old answer new. outcome (of y) old answer new)
        (λ ys old. AllMay (λ y old. may (of y) old) ys old)
        (λ ys. PreparesItems (λ y old answer new. outcome (of y) old answer new) ys) reach
    items = items_are_lawful (lawful_of of lawful)

pub ready_are_lawful : {A : Type 0} {may : A → State → Type 0} (all_may : List A → State → Type 0)
    {reach : A → ℕ}
    → ((xs : List A) (old : State) → all_may xs old → AllMay may xs old)
    → ((xs : List A) (old : State) → all_may xs old
    → AllByRecursion (λ x. reach x ≤ length old.bytes) xs)
    → ((xs : List A) (old new : State) → Grows old new → all_may xs old → all_may xs new)
    → AreLawful may Answers all_may Answers reach
ready_are_lawful {A} all_may {reach} each reached still = record {
  each_may = each;
  grow = λ xs old answer new h done. unchanged_grows old new done.1;
  reach_all = λ xs old values new h done.
      let same : values ≡ xs = cc in
      subst (λ (state : State). AllByRecursion (λ x. reach x ≤ length state.bytes) values)
      (sym done.1)
      (subst (λ (items : List A). AllByRecursion (λ x. reach x ≤ length old.bytes) items) (sym same)
      (reached xs old h));
  stay = still;
  one_by_one = λ xs old values new h done.
      let ready = ready_items xs old values new done in
      (ap (λ (items : List A). Ok items) ready.0, ready.1);
}

pub numbers_are_lawful : {A : Type 0}
    → AreLawful {X = A} (λ x old. ⊤) Answers (λ xs old. ⊤) Answers (λ x. 0)
numbers_are_lawful {A} = ready_are_lawful (λ xs old. ⊤) (λ xs old h. all_free xs old)
    (λ xs old h. all_reach_nothing xs old) (λ xs old new grows h. tt)

pub offsets_are_lawful : {T : Type 0}
    → AreLawful {X = Offset T} (λ offset old. offset.distance ≤ length old.bytes) Answers
    (λ offsets old. AllIn old offsets) Answers (λ offset. offset.distance)
offsets_are_lawful {T} = ready_are_lawful (λ offsets old. AllIn old offsets) (λ xs old h. h)
    (λ xs old h. h)
    (may_still (λ (offset : Offset T) old. offset.distance ≤ length old.bytes) Answers
    (λ offset. offset.distance) offset_is_lawful)

module _ {X A : Type 0} (all_may : List X → State → Type 0) (prepares : List X → Outcome (List A))
    (grow : (xs : List X) (old : State) → all_may xs old → GrowsFrom old (prepares xs))
    (encoding : A → Item) (size alignment : ℕ) where
  abbrev written : List A → List Entry
  written items = list_entries size alignment (map encoding items)

  abbrev does : List X → Outcome ℕ
  does xs = then_does (prepares xs) (λ items. AnswersLast (WritesEntries (written items) []))

  pub list_grows : {T : Type 0} (xs : List X) (old : State) → all_may xs old
      → GrowsFrom {A = Offset T} old (WritesList prepares encoding size alignment xs)
  list_grows xs old h =
      as_offset_grows (does xs) old
      (then_grows old (prepares xs)
      (λ items. AnswersLast (WritesEntries (written items) []))
      (grow xs old h)
      (λ items between done.
      then_grows between (WritesEntries (written items) []) (λ got. Answers (last_of got))
      (entries_grow (written items) [] between)
      (λ got after put. answers_grow (last_of got) after)))

  pub list_reaches : (items : List A) (old : State) (got : List ℕ) (new : State)
      → WritesEntries (written items) [] old (Ok got) new → last_of got ≤ length new.bytes
  list_reaches items old got new h =
      let same : got ≡ h.0 ∷ h.3.0 ∷ [] = cc in
      subst (λ all. last_of all ≤ length new.bytes) (sym same)
      (subst (λ (state : State). h.3.0 ≤ length state.bytes) (sym h.3.3.1) h.3.2.reached)

pub list_is_lawful : {X A Y T : Type 0} {may : X → State → Type 0} {outcome : X → Outcome A}
    {all_may : List X → State → Type 0} {prepares : List X → Outcome (List A)} {reach : A → ℕ}
    {encoding : A → Item} (size alignment : ℕ) (items_of : Y → List X)
    → AreLawful may outcome all_may prepares reach
    → IsLawful {X = Y} {A = Offset T} (λ y old. all_may (items_of y) old)
    (λ y old answer new. WritesList prepares encoding size alignment (items_of y) old answer new)
    (λ offset. offset.distance)
list_is_lawful {all_may = all_may} {prepares = prepares} {encoding = encoding} size alignment
    items_of
    lawful =
    record {
      grows = λ y old answer new h done.
          list_grows all_may prepares
          (λ xs old h answer new done. lawful.grow xs old answer new h done)
          encoding size alignment (items_of y) old h answer new done;
      reaches = λ y old offset new h done.
          let same : offset.distance ≡ last_of done.3.0 = cc in
          subst (λ d. d ≤ length new.bytes) (sym same)
          (subst (λ (state : State). last_of done.3.0 ≤ length state.bytes) (sym done.3.3.1)
          (list_reaches all_may prepares
          (λ xs old h answer new done. lawful.grow xs old answer new h done) encoding size alignment
          done.0 done.1 done.3.0 done.3.1 done.3.2));
      stays = λ y old new grows h. lawful.stay (items_of y) old new grows h;
    }

pub ready_list_is_put : {A T : Type 0} (encoding : A → Item) (size alignment : ℕ) (xs : List A)
    (old : State) (offset : Offset T) (new : State)
    → WritesList Answers encoding size alignment xs old (Ok offset) new
    → (got : List ℕ)
    × WritesEntries (list_entries size alignment (map encoding xs)) [] old (Ok got) new
    × (offset.distance ≡ last_of got)
ready_list_is_put {A} {T} encoding size alignment xs old offset new h =
    let items : h.0 ≡ xs = cc in
    let counted : offset.distance ≡ last_of h.3.0 = cc in (
      h.3.0,
      subst
          (λ (state : State).
          WritesEntries (list_entries size alignment (map encoding xs)) [] old (Ok h.3.0) state)
          (sym h.3.3.1)
          (subst
          (λ (state : State).
          WritesEntries (list_entries size alignment (map encoding xs)) [] state (Ok h.3.0) h.3.1)
          h.2.1
          (subst
          (λ (items : List A).
          WritesEntries (list_entries size alignment (map encoding items)) [] h.1 (Ok h.3.0)
          h.3.1)
          items h.3.2)),
      counted,
    )

pub ready_list_is_refused
    : {A : Type 0} (T : Type 0) (encoding : A → Item) (size alignment : ℕ) (xs : List A)
    (old : State) (error : BuildError) (new : State)
    → WritesList {T = T} Answers encoding size alignment xs old (Err error) new
    → WritesEntries (list_entries size alignment (map encoding xs)) [] old (Err error) new
ready_list_is_refused T encoding size alignment xs old error new (inl h) = (cc)
ready_list_is_refused {A} T encoding size alignment xs old error new
    (inr (items, mid, h, inl refused)) =
    let same : items ≡ xs = cc in
    subst
    (λ (state : State).
    WritesEntries (list_entries size alignment (map encoding xs)) [] state (Err error) new)
    h.1
    (subst
    (λ (all : List A).
    WritesEntries (list_entries size alignment (map encoding all)) [] mid (Err error) new)
    same refused)
ready_list_is_refused T encoding size alignment xs old error new
    (inr (items, mid, h, inr refused)) =
    (cc)

pub plain_items_are : {A : Type 0} (bytes_of : A → List ℕ) (xs : List A)
    → map (λ (x : A). plain_item (bytes_of x)) xs ≡ map plain_item (map bytes_of xs)
plain_items_are bytes_of [] = refl
plain_items_are bytes_of (x ∷ xs) =
    ap (λ (items : List Item). plain_item (bytes_of x) ∷ items) (plain_items_are bytes_of xs)

pub reference_items_are : {A : Type 0} (distance_of : A → ℕ) (xs : List A)
    → map (λ (x : A). reference_item (distance_of x)) xs ≡ map reference_item (map distance_of xs)
reference_items_are distance_of [] = refl
reference_items_are distance_of (x ∷ xs) =
    ap (λ (items : List Item). reference_item (distance_of x) ∷ items)
    (reference_items_are distance_of xs)
