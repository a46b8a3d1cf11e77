-- Parts that are placed in turn, and their entries.
use Rattle.std.proofs.Common.{◌≡◌, ℕ, ◌+◌, ◌≤◌, List, [], ◌∷◌, ◌++◌, length}
use Rattle.std.proofs.Common.{refl, sym, ap, ◌∙◌, subst, arith, Option, Some, None}
use Rattle.std.proofs.Common.{max, inl, inr}
use Rattle.std.specs.Prelude.{◌*◌, map}
use Rattle.std.proofs.lemmas.List.{length-map}
use Rattle.std.specs.List.{AllByRecursion}
use Rattle.std.proofs.lemmas.Bool.{cases_lt}
use Rattle.planus_back.specs.Promises.{Promise, IsPowerOfTwo, greatest_alignment}
use Rattle.planus_back.specs.Padding.{promise_of}
use Rattle.planus_back.specs.Parts.{Part, Written, Placed}
use Rattle.planus_back.specs.Descriptions.{Describes}
use Rattle.planus_back.specs.Requests.{Delay, DescribesAll}
use Rattle.planus_back.proofs.PaddingLaws.{stay_described}
use Rattle.planus_read.specs.Values as value
use Rattle.planus_read.specs.Values.{Value}
use Rattle.planus_write.specs.Shared.{Contents, CacheSettings, shared_as}
use Rattle.planus_write.specs.History.{History, Entry, Adds, PutsAfter, PutsAll, part_after, found_before}
use Rattle.planus_write.specs.Parts.{entries_of, IsWritten, list_entries, distances_in}
use Rattle.planus_write.specs.Items.{Item, plain_item, reference_item}
use Rattle.planus_write.specs.lemmas.PartBytes.{length_after, text_size, byte_list_size}
use Rattle.planus_write.specs.lemmas.TableBytes.{body_length, body_power}
use Rattle.planus_write.specs.lemmas.KeptLists.{IsListOf, plain_items, reference_items}
use Rattle.planus.specs.Runs.{nothing_written}
use Rattle.planus.proofs.Turns.{InTurn, turn_taken}
use Rattle.planus.proofs.Lists.{all_weaker}

pub record IsPlacedInTurn (history : History) : Type 0 where
  pub powers : AllByRecursion (λ (p : Promise). IsPowerOfTwo p.alignment) history.written.promises
  pub reached : AllByRecursion (λ (p : Promise). p.distance ≤ length history.written.bytes) history.written.promises
  pub described : (delay : Delay) × DescribesAll delay (length history.written.bytes) history.written.promises
  pub turns : InTurn history.written history.parts history.places

nothing_described : Describes 0 0 0 []
nothing_described = record { powers = tt; reached = tt; kept = λ finished from. (λ _. (finished, omega arith), λ _. tt) }

pub nothing_in_turn : IsPlacedInTurn (nothing_written.history)
nothing_in_turn = record { powers = tt; reached = tt; described = (record { delayed = 0; mask = 0 }, nothing_described); turns = record { powers = tt; turns = tt; ended = refl; promised = refl } }

module _ (part : Part) (before after : Written) (placed : Placed part before after)
    (sized : length (part.bytes_at placed.place) ≡ part.size) where
  length_is : length after.bytes ≡ placed.place
  length_is = length_after part before after placed sized

  grown : length before.bytes + part.size ≤ length after.bytes
  grown = let h = length_is in let g = placed.is_place in omega arith

  powers_after : AllByRecursion (λ (p : Promise). IsPowerOfTwo p.alignment) before.promises
      → IsPowerOfTwo part.alignment
      → AllByRecursion (λ (p : Promise). IsPowerOfTwo p.alignment) after.promises
  powers_after h power = subst (λ ps. AllByRecursion (λ (p : Promise). IsPowerOfTwo p.alignment) ps) (sym placed.promises) (power, h)

  reached_after : AllByRecursion (λ (p : Promise). p.distance ≤ length before.bytes) before.promises
      → AllByRecursion (λ (p : Promise). p.distance ≤ length after.bytes) after.promises
  reached_after h =
      let longer : length before.bytes + part.size ≤ length after.bytes = grown in
      let here : placed.place ≤ length after.bytes = let e = length_is in omega arith in
      subst (λ ps. AllByRecursion (λ (p : Promise). p.distance ≤ length after.bytes) ps) (sym placed.promises)
      (here, all_weaker (λ (p : Promise). p.distance ≤ length before.bytes) (λ (p : Promise). p.distance ≤ length after.bytes) (λ p le. omega arith) before.promises h)

  described_after : IsPowerOfTwo part.alignment → (delay : Delay) → DescribesAll delay (length before.bytes) before.promises
      → (later : Delay) × DescribesAll later (length after.bytes) after.promises
  described_after power delay h =
      let more = stay_described delay (length before.bytes) before.promises part.size part.alignment placed.padding h power placed.is_least in
      let there : DescribesAll more.0 placed.place (promise_of placed.place part.alignment ∷ before.promises)
      = subst (λ n. DescribesAll more.0 n (promise_of n part.alignment ∷ before.promises)) (sym placed.is_place) more.1 in
      (more.0, subst (λ n. DescribesAll more.0 n after.promises) (sym length_is) (subst (λ ps. DescribesAll more.0 placed.place ps) (sym placed.promises) there))

module _ (part : Part) (shared : Option Contents) (before : History) (distance : ℕ) (after : History)
    (adds : Adds part shared before distance after)
    (sized : length (part.bytes_at adds.placed.place) ≡ part.size) (power : IsPowerOfTwo part.alignment) (h : IsPlacedInTurn before) where
  turned : InTurn after.written after.parts after.places
  turned =
      let taken : InTurn after.written (before.parts ++ part ∷ []) (before.places ++ adds.placed.place ∷ [])
      = turn_taken part before.written after.written adds.placed (length_after part before.written after.written adds.placed sized) before.parts before.places h.turns power in
      subst (λ ps. InTurn after.written ps after.places) (sym adds.parts)
      (subst (λ ps. InTurn after.written (before.parts ++ part ∷ []) ps) (sym adds.places)
      (subst (λ n. InTurn after.written (before.parts ++ part ∷ []) (before.places ++ n ∷ [])) (sym adds.at) taken))

  pub added_in_turn : IsPlacedInTurn after
  added_in_turn = record {
    powers = powers_after part before.written after.written adds.placed sized h.powers power;
    reached = reached_after part before.written after.written adds.placed sized h.reached;
    described = described_after part before.written after.written adds.placed sized power h.described.0 h.described.1;
    turns = turned;
  }

pub record IsFit (entry : Entry) (got : List ℕ) (history : History) : Type 0 where
  pub sized : (place : ℕ)
      → length ((part_after entry got history).bytes_at place) ≡ (part_after entry got history).size
  pub power : IsPowerOfTwo (part_after entry got history).alignment

abbrev pub AreFit : List Entry → Type 0
AreFit entries = AllByRecursion (λ entry. (got : List ℕ) (history : History) → IsPlacedInTurn history → IsFit entry got history) entries

pub put_in_turn : (earlier : Option ℕ) (part : Part) (shared : Option Contents) (before : History)
    (distance : ℕ) (after : History) → PutsAfter earlier part shared before distance after
    → ((place : ℕ) → length (part.bytes_at place) ≡ part.size) → IsPowerOfTwo part.alignment
    → IsPlacedInTurn before → IsPlacedInTurn after
put_in_turn (Some d) part shared before distance after put sized power h = subst IsPlacedInTurn (sym put.1) h
put_in_turn None part shared before distance after put sized power h = added_in_turn part shared before distance after put (sized put.placed.place) power h

pub all_in_turn : (settings : CacheSettings) (entries : List Entry) (got : List ℕ) (before : History)
    (all : List ℕ) (after : History) → AreFit entries
    → PutsAll settings entries got before all after → IsPlacedInTurn before → IsPlacedInTurn after
all_in_turn settings [] got before all after fit puts h = subst IsPlacedInTurn (sym puts.1) h
all_in_turn settings (entry ∷ entries) got before all after fit puts h =
    let here : IsFit entry got before = fit.0 got before h in
    let between : IsPlacedInTurn puts.1
    = put_in_turn (found_before settings entry before) (part_after entry got before) (shared_as settings entry.contents) before puts.0 puts.1 puts.2 here.sized here.power h in
    all_in_turn settings entries (got ++ puts.0 ∷ []) puts.1 all after fit.1 puts.3 between

greater_power : (a b : ℕ) → IsPowerOfTwo a → IsPowerOfTwo b → IsPowerOfTwo (max a b)
greater_power a b h k =
    elim (cases_lt a b) as (λ _. IsPowerOfTwo (max a b)) [
      | inl lt ↦ (let f : b ≡ max a b = omega (arith, lt) in subst IsPowerOfTwo f k)
      | inr le ↦ (let f : a ≡ max a b = omega (arith, le) in subst IsPowerOfTwo f h)
    ]

list_fit : {X : Type 0} (item_of : X → Item) (size alignment before : ℕ) (xs : List X) (v : Value)
    → IsListOf item_of size alignment before xs v
    → AreFit (list_entries size alignment (map item_of xs))
list_fit item_of size alignment before xs v list = (
  (λ got history h. record { sized = λ place. list.sized place ∙ ap (λ n. n * size) (sym (length-map xs item_of)); power = greater_power alignment 4 list.power (2, refl) }),
  ((λ got history h. record { sized = λ place. refl; power = (0, refl) }), tt),
)

all_distances : (before : ℕ) (items : List (ℕ × ℕ)) → AllByRecursion (λ (item : ℕ × ℕ). item.1 ≤ before) items
    → AllByRecursion (λ distance. distance ≤ before) (distances_in items)
all_distances before [] h = tt
all_distances before (item ∷ items) h = (h.0, all_distances before items h.1)

pub values_are_fit : (before : ℕ) (v : Value) → IsWritten before v → AreFit (entries_of v)
values_are_fit before (value.text content) written = ((λ got history h. record { sized = λ place. text_size content place; power = (2, refl) }), tt)
values_are_fit before (value.byte_list content) written = ((λ got history h. record { sized = λ place. byte_list_size content place; power = (2, refl) }), tt)
values_are_fit before (value.plain_list size alignment items) written =
    list_fit plain_item size alignment before items (value.plain_list size alignment items) (plain_items size alignment before items written)
values_are_fit before (value.reference_list distances) written =
    list_fit reference_item 4 4 before distances (value.reference_list distances) (reference_items before distances written)
values_are_fit before (value.union_vector items) written =
    let list = list_fit reference_item 4 4 before (distances_in items) (value.reference_list (distances_in items)) (reference_items before (distances_in items) (all_distances before items written)) in (
      list.0,
      (
        list.1.0,
        (
          (λ got history h. record { sized = λ place. refl; power = (2, refl) }),
          ((λ got history h. record { sized = λ place. refl; power = (0, refl) }), tt),
        ),
      ),
    )
values_are_fit before (value.apart item) written =
    ((λ got history h. record { sized = λ place. refl; power = (written.power.0, written.power.2) }), tt)
values_are_fit before (value.table entries) written = (
  (λ got history h. record { sized = λ place. refl; power = (1, refl) }),
  (
    (λ got history h. record { sized = λ place. body_length entries place; power = (body_power before entries written.fields).0 }),
    ((λ got history h. record { sized = λ place. refl; power = (0, refl) }), tt),
  ),
)

pub greatest_power : (least : ℕ) (promises : List Promise) → IsPowerOfTwo least
    → AllByRecursion (λ (p : Promise). IsPowerOfTwo p.alignment) promises
    → IsPowerOfTwo (greatest_alignment least promises)
greatest_power least [] power h = power
greatest_power least (p ∷ promises) power h = greater_power p.alignment (greatest_alignment least promises) h.0 (greatest_power least promises power h.1)
