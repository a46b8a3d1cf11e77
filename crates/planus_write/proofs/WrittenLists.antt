-- A vector is written.
use Rattle.std.proofs.Common.{◌≡◌, ℕ, suc, zero, ◌+◌, ◌*◌, ◌^◌, ◌<◌, ◌≤◌, max, List, [], ◌∷◌, length, map}
use Rattle.std.proofs.Common.{refl, sym, ap, ◌∙◌, subst, arith, inl, inr}
use Rattle.std.specs.Prelude.{Result, Ok, Err}
use Rattle.std.specs.List.{AllByRecursion}
use Rattle.std.proofs.lemmas.List.{length-map}
use Rattle.std.proofs.lemmas.Nat.{pow_pos}
use Rattle.std.proofs.lemmas.Option.{slice_get_within}
use Rattle.std.proofs.Math.Nat.{mul-le-mul_left, mul-le-mul_right}
use Rattle.planus_back.specs.Promises.{IsPowerOfTwo}
use Rattle.planus_back.specs.Padding.{greatest_place}
use Rattle.planus_back.specs.Parts.{Part}
use Rattle.planus_back.proofs.PaddingLaws.{exists}
use Rattle.planus_write.specs.History.{Entry, unshared_entry}
use Rattle.planus_write.specs.Parts.{items_bytes, items_part, count_part, filled_part}
use Rattle.planus_write.specs.Items.{Item}
use Rattle.planus_write.specs.State.{State}
use Rattle.planus_write.specs.Placing.{Outcome, WritesEntry, Refuses}
use Rattle.planus_read.specs.Plain.{IsLayout}
use Rattle.planus_write.specs.Preparing.{AsOffset, AnswersLast}
use Rattle.planus_write.specs.Preparing.{WritesEntries, WritesPrepared, WritesList, MayStand}
use Rattle.planus_write.specs.declared.errors.BuildError.{BuildError}
use Rattle.planus_write.specs.declared.errors.BuildError.TheVariants.{OutOfMemory, TooLarge}
use Rattle.planus_write.specs.declared.offset.Offset.{Offset}
use Rattle.planus_write.proofs.PreparedItems.{may_at}

greatest_power : (k : ℕ) → IsPowerOfTwo (max (2 ^ k) 4)
greatest_power zero = (2, refl)
greatest_power (suc zero) = (2, refl)
greatest_power (suc (suc k)) =
    let positive : 0 < 2 ^ k = pow_pos k in
    let twice : 2 ^ suc (suc k) ≡ 2 ^ k * 4 = omega (arith) in
    (suc (suc k), omega (arith, positive, twice))

pub items_power : (size alignment : ℕ) → IsLayout size alignment → IsPowerOfTwo (max alignment 4)
items_power size alignment layout = subst (λ a. IsPowerOfTwo (max a 4)) (sym layout.power.2) (greatest_power layout.power.0)

module _ {A : Type 0} (encoding : A → Item) (reach : A → ℕ) (values : List A) (stride size alignment : ℕ) (same : stride ≡ size) where
  abbrev items : List Item
  items = map encoding values

  pub part_is : (n aligned : ℕ) → n ≡ length values * stride → aligned ≡ max alignment 4
      → filled_part n aligned (λ place n. items_bytes stride place items) ≡ items_part size alignment items
  part_is n aligned n_is aligned_is =
      ap (λ a. filled_part n a (λ place n. items_bytes stride place items)) aligned_is
      ∙ ap (λ m. filled_part m (max alignment 4) (λ place n. items_bytes stride place items)) (n_is ∙ ap (λ s. length values * s) same ∙ ap (λ m. m * size) (sym (length-map values encoding)))
      ∙ ap (λ s. filled_part (length items * size) (max alignment 4) (λ place n. items_bytes s place items)) same

  pub may_stand : (before n place : ℕ) → n ≡ length values * stride → AllByRecursion (λ value. reach value ≤ before) values → before + n ≤ place → MayStand reach stride place values
  may_stand before n place n_is reached le = record {
    inside = omega (arith, n_is, le);
    reached = λ i item there.
        let behind : reach item ≤ before = may_at (λ value. reach value ≤ before) values i item reached there in
        let within : i * stride ≤ length values * stride = mul-le-mul_right stride (let lt : i < length values = slice_get_within values i item there in omega (arith, lt)) in
        omega (arith, n_is, le, behind, within);
  }

pub count_fits : (count stride size place : ℕ) → stride ≡ size → 0 < size → count * stride ≤ place → count ≤ place
count_fits count stride size place same positive le =
    let one : count * 1 ≤ count * stride = mul-le-mul_left count (omega (arith, same, positive)) in
    omega (arith, one, le)

pub refused_by_size : (part : Part) (got : List ℕ) (old : State) → IsPowerOfTwo part.alignment → greatest_place < part.size → Refuses (unshared_entry part) got old TooLarge old
refused_by_size part got old power far = record {
  unchanged = refl;
  cause = λ history h.
      let padded = exists (length old.bytes) old.delayed old.mask history.written.promises part.size part.alignment h.described power in
      record {
        is_new = refl;
        too_large = record {
          padding = padded.0;
          is_least = rw h.bytes padded.1;
          too_great = omega (arith, far);
        };
      };
}

pub put_behind : (part : Part) (before got : List ℕ) (old : State) (distance : ℕ) (new : State) → WritesEntry (unshared_entry part) before old (Ok distance) new → WritesEntry (unshared_entry part) got old (Ok distance) new
put_behind part before got old distance new h = record { grows = h.grows; reached = h.reached; fits = h.fits; puts = h.puts; room = h.room; settings = h.settings }

pub refused_behind : (part : Part) (before got : List ℕ) (old : State) (error : BuildError) (new : State) → WritesEntry (unshared_entry part) before old (Err error) new → WritesEntry (unshared_entry part) got old (Err error) new
refused_behind part before got old TooLarge new h = record { unchanged = h.unchanged; cause = λ history is_history. (let c = h.cause history is_history in record { is_new = c.is_new; too_large = c.too_large }) }
refused_behind part before got old OutOfMemory new h = record { unchanged = h.unchanged; cause = λ history is_history. (let c = h.cause history is_history in record { is_new = c.is_new; lacks = c.lacks }) }

module _ (part : Part) (count : ℕ) (old : State) where
  abbrev counted : List Entry
  counted = unshared_entry part ∷ unshared_entry (count_part count) ∷ []

  pub part_refused : (T : Type 0) (error : BuildError) (new : State) → WritesEntry (unshared_entry part) [] old (Err error) new
      → AsOffset {T = T} (AnswersLast (WritesEntries counted [])) old (Err error) new
  part_refused T error new refused = inl (inl refused)

  module _ (first : ℕ) (between : State) (put : WritesEntry (unshared_entry part) [] old (Ok first) between) where
    pub count_refused : (T : Type 0) (error : BuildError) (new : State) → WritesEntry (unshared_entry (count_part count)) [] between (Err error) new
        → AsOffset {T = T} (AnswersLast (WritesEntries counted [])) old (Err error) new
    count_refused T error new refused = inl (inr (first, between, put, inl (refused_behind (count_part count) [] (first ∷ []) between error new refused)))

    pub counted_written : {T : Type 0} (offset : Offset T) (new : State) → WritesEntry (unshared_entry (count_part count)) [] between (Ok offset.distance) new
        → AsOffset (AnswersLast (WritesEntries counted [])) old (Ok offset) new
    counted_written offset new put_count =
        (first ∷ offset.distance ∷ [], new, (first, between, put, (offset.distance, new, put_behind (count_part count) [] (first ∷ []) between offset.distance new put_count, (refl, refl))), (refl, refl))

module _ {X A T : Type 0} (prepares : List X → Outcome (List A)) (encoding : A → Item) (size alignment : ℕ) (xs : List X) (values : List A) (old mid : State)
    (prepared : prepares xs old (Ok values) mid) where
  pub list_is : (answer : Result (Offset T) BuildError) (new : State) → WritesPrepared size alignment (map encoding values) mid answer new
      → WritesList prepares encoding size alignment xs old answer new
  list_is (Ok offset) new h = (values, mid, prepared, h)
  list_is (Err error) new h = inr (values, mid, prepared, h)
