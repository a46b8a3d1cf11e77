-- Stored vectors.
use Rattle.std.proofs.Common.{◌≡◌, ℕ, ◌+◌, ◌-◌, ◌*◌, ◌<◌, ◌≤◌, ◌^◌, max, List, [], ◌∷◌, ◌++◌}
use Rattle.std.proofs.Common.{length, map, take, drop, replicate, refl, sym, ap, ◌∙◌, subst, arith}
use Rattle.std.proofs.Common.{Some, None, append_assoc, length-append, inl, inr, true, lit<}
use Rattle.std.specs.Prelude.{nat_le}
use Rattle.std.specs.Int.{w32, to_le_bytes, from_le_bytes, ◌∣◌}
use Rattle.std.specs.List.{AllByRecursion}
use Rattle.std.proofs.lemmas.Nat.{from_le_bytes-to_le_bytes_4}
use Rattle.std.proofs.lemmas.Nat.Gcd.{dvd_refl, dvd_trans}
use Rattle.std.proofs.lemmas.Bool.{cases_lt}
use Rattle.std.proofs.lemmas.Bool.Decides.{nat_tests}
use Rattle.std.proofs.lemmas.List.{length-map}
use Rattle.std.proofs.Math.Nat.{dvd-add, dvd-sub, le-mul_of_pos_right}
use Rattle.std.proofs.Math.Seq.{take-append_seam}
use Rattle.planus_back.specs.Promises.{Keep, Keeps, IsPowerOfTwo}
use Rattle.planus_back.specs.Padding.{promise_of}
use Rattle.planus_back.proofs.Lists.{power_divides}
use Rattle.planus_read.specs.Bytes.{Num, BytesStand}
use Rattle.planus_read.specs.Values as value
use Rattle.planus_read.specs.Values.{Value}
use Rattle.planus_read.specs.Stands.{Stands, at, ItemsStand, PlainStands, ReferenceStands}
use Rattle.planus_read.specs.Aligned.{AlignedAt, ListAligned}
use Rattle.planus_read.proofs.Bytes.{parts_stand}
use Rattle.planus_write.specs.Shared.{CacheSettings}
use Rattle.planus_write.specs.History.{History, Adds, PutsAll}
use Rattle.planus_write.specs.State.{Extends}
use Rattle.planus_write.specs.lemmas.Laws.{added_extends, extends_on}
use Rattle.planus_write.specs.Parts.{items_bytes, items_part, count_part, list_entries, IsPlainList}
use Rattle.planus_write.specs.Parts.{last_of}
use Rattle.planus_write.specs.Items.{Item, plain_item, reference_item}
use Rattle.planus_write.specs.Kept.{IsKept, CachedIsKept, AllCachedKept}
use Rattle.planus_write.specs.lemmas.PartBytes.{length_after, front_number, kept_at_front, unpadded}
use Rattle.planus_write.specs.lemmas.Staying.{cached_stays}

divide_greater : (a : ℕ) → IsPowerOfTwo a → (a ∣ max a 4) × (4 ∣ max a 4)
divide_greater a power =
    elim (cases_lt a 4) as (λ _. (a ∣ max a 4) × (4 ∣ max a 4)) [
      | inl small ↦
          (let e : 4 ≡ max a 4 =
          omega (arith, small) in subst (λ m. (a ∣ m) × (4 ∣ m)) e
          (power_divides a 4 power (2, refl) (omega (arith, small)), dvd_refl 4))
      | inr large ↦
          (let e : a ≡ max a 4 =
          omega (arith, large) in subst (λ m. (a ∣ m) × (4 ∣ m)) e
          (dvd_refl a, power_divides 4 a (2, refl) power large))
    ]

items_aligned : {X : Type 0} (size alignment k : ℕ) (xs : List X) → alignment ∣ size → alignment ∣ k
    → ItemsStand (λ position item. alignment ∣ position) k size xs
items_aligned size alignment k [] divides h = tt
items_aligned size alignment k (x ∷ xs) divides h =
    (h, items_aligned size alignment (k + size) xs divides (dvd-add alignment h divides))

module _ {X : Type 0} (item_of : X → Item) (size : ℕ) (IsGood : X → Type 0)
    (sized : (x : X) → IsGood x → (place : ℕ) → length (item_of x place) ≡ size) where
  items_length : (xs : List X) → AllByRecursion IsGood xs → (place : ℕ)
      → length (items_bytes size place (map item_of xs)) ≡ length xs * size
  items_length [] good place = let e : 0 ≡ 0 * size = omega arith in e
  items_length (x ∷ xs) good place =
      let first : length (item_of x place) ≡ size = sized x good.0 place in
      let rest : length (items_bytes size (place - size) (map item_of xs)) ≡ length xs * size =
      items_length xs good.1 (place - size) in
      length-append (item_of x place) (items_bytes size (place - size) (map item_of xs))
      ∙ omega (arith, first, rest)

  module _ (B : List ℕ) (before : ℕ) (StandsAt : ℕ → X → Type 0)
      (stands : (x : X) → IsGood x → (k place : ℕ) → before + size ≤ place → place ≤ 2147483647
      → k + place ≡ length B → BytesStand B k (item_of x place) → StandsAt k x) where
    items_stand : (xs : List X) → AllByRecursion IsGood xs → (k place : ℕ)
        → before + length xs * size ≤ place → place ≤ 2147483647 → k + place ≡ length B
        → BytesStand B k (items_bytes size place (map item_of xs)) → ItemsStand StandsAt k size xs
    items_stand [] good k place within fits ends there = tt
    items_stand (x ∷ xs) good k place within fits ends there =
        let rest : List ℕ = items_bytes size (place - size) (map item_of xs) in
        let both : BytesStand B k (item_of x place)
        × BytesStand B (k + length (item_of x place)) rest =
        parts_stand B (item_of x place) rest k there in
        let behind : BytesStand B (k + size) rest =
        subst (λ n. BytesStand B (k + n) rest) (sized x good.0 place) both.1 in (
          stands x good.0 k place (omega (arith, within)) fits ends both.0,
          items_stand xs good.1 (k + size) (place - size) (omega (arith, within))
              (omega (arith, fits)) (omega (arith, within, ends)) behind,
        )

pub record IsListOf {X : Type 0} (item_of : X → Item) (size alignment before : ℕ) (xs : List X)
    (value : Value) : Type 0 where
  pub sized : (place : ℕ) → length (items_bytes size place (map item_of xs)) ≡ length xs * size
  pub positive : 0 < size
  pub power : IsPowerOfTwo alignment
  pub divides : alignment ∣ size
  pub stands : (B : List ℕ) (place : ℕ) → before + length xs * size ≤ place → place ≤ 2147483647
      → 4 + place ≡ length B → Num B 0 w32 ≡ Some (length xs)
      → BytesStand B 4 (items_bytes size place (map item_of xs)) → Stands B (at 0) value
  pub aligned : (B : List ℕ) (k : ℕ) → ListAligned k size alignment xs → AlignedAt B (at k) value

pub plain_items : (size alignment before : ℕ) (items : List (List ℕ))
    → IsPlainList size alignment items
    → IsListOf plain_item size alignment before items (value.plain_list size alignment items)
plain_items size alignment before items written = record {
  sized = items_length plain_item size (λ item. length item ≡ size) (λ item h place. h) items
      written.sizes;
  positive = written.positive;
  power = written.power;
  divides = written.multiple;
  stands = λ B place within fits ends count there. (
    count,
    items_stand plain_item size (λ item. length item ≡ size) (λ item h place. h) B before
        (PlainStands size B)
        (λ item good k at inside small goes bytes. (good, bytes)) items written.sizes 4 place within
        fits ends there,
  );
  aligned = λ B k h. h;
}

pub number_there : (B : List ℕ) (k n : ℕ) → n < 2 ^ 32 → k + 4 ≤ length B
    → BytesStand B k (to_le_bytes w32 n) → Num B k w32 ≡ Some n
number_there B k n small inside there =
    let within : nat_le (k + 4) (length B) ≡ true = grind (arith, nat_tests, inside) in
    rw within (ap Some (ap (from_le_bytes w32) there ∙ from_le_bytes-to_le_bytes_4 n small))

pub reference_items : (before : ℕ) (distances : List ℕ)
    → AllByRecursion (λ distance. distance ≤ before) distances
    → IsListOf reference_item 4 4 before distances (value.reference_list distances)
reference_items before distances behind = record {
  sized = items_length reference_item 4 (λ distance. distance ≤ before) (λ distance h place. refl)
      distances behind;
  positive = lit< tt;
  power = (2, refl);
  divides = dvd_refl 4;
  stands = λ B place within fits ends count there. (
    count,
    items_stand reference_item 4 (λ distance. distance ≤ before) (λ distance h place. refl) B before
        (ReferenceStands B)
        (λ distance good k at inside small goes bytes. (
          at - distance,
          number_there B k (at - distance) (omega (arith, small)) (omega (arith, inside, goes))
              bytes,
          omega (arith, good, inside, goes),
        )) distances behind 4 place within fits ends there,
  );
  aligned = λ B k h. h;
}

module _ {X : Type 0} (item_of : X → Item) (size alignment : ℕ) (xs : List X)
    (before between after : History) (first second : ℕ)
    (items : Adds (items_part size alignment (map item_of xs)) None before first between)
    (count : Adds (count_part (length (map item_of xs))) None between second after) where
  abbrev listed : List Item
  listed = map item_of xs

  abbrev place : ℕ
  place = items.placed.place

  place_is : place ≡ length before.written.bytes + items.placed.padding + length xs * size
  place_is = items.placed.is_place
      ∙ ap (λ n. length before.written.bytes + items.placed.padding + n * size)
      (length-map xs item_of)

  whole : after.written.bytes ≡ to_le_bytes w32 (length xs) ++ between.written.bytes
  whole =
      count.placed.bytes
      ∙ ap (λ n. (to_le_bytes w32 (length listed) ++ replicate n 0) ++ between.written.bytes)
      (unpadded 4 (λ place. to_le_bytes w32 (length listed)) between.written after.written
      count.placed)
      ∙ ap (λ n. to_le_bytes w32 n ++ between.written.bytes) (length-map xs item_of)

  promised : after.written.promises ≡ promise_of count.placed.place 1
      ∷ promise_of place (max alignment 4) ∷ before.written.promises
  promised = count.placed.promises
      ∙ ap (λ ps. promise_of count.placed.place 1 ∷ ps) items.placed.promises

  extends_first : Extends before between
  extends_first = added_extends (items_part size alignment listed) None before first between items

  extends_second : Extends between after
  extends_second = added_extends (count_part (length listed)) None between second after count

  cached_between : AllCachedKept before → AllCachedKept between
  cached_between all =
      subst (AllByRecursion (CachedIsKept between)) (sym items.cached)
      (cached_stays before between extends_first before.cached all)

  cached_after : AllCachedKept before → AllCachedKept after
  cached_after all =
      subst (AllByRecursion (CachedIsKept after)) (sym count.cached)
      (cached_stays between after extends_second between.cached (cached_between all))

  extends_both : Extends before after
  extends_both = extends_on before between after extends_first extends_second

  counted : 0 < size → Num after.written.bytes 0 w32 ≡ Some (length xs)
  counted positive =
      let fits : place ≤ 2147483647 = items.placed.fits in
      let fewer : length xs ≤ length xs * size = le-mul_of_pos_right (length xs) positive in
      subst (λ B. Num B 0 w32 ≡ Some (length xs)) (sym whole)
      (front_number (length xs) between.written.bytes (omega (arith, fits, place_is, fewer)))

  module _ (sized : length (items_bytes size place listed) ≡ length xs * size) where
    between_ends : length between.written.bytes ≡ place
    between_ends =
        length_after (items_part size alignment listed) before.written between.written items.placed
        (sized ∙ ap (λ n. n * size) (sym (length-map xs item_of)))

    after_ends : length after.written.bytes ≡ 4 + place
    after_ends =
        ap length whole ∙ length-append (to_le_bytes w32 (length xs)) between.written.bytes
        ∙ ap (λ n. 4 + n) between_ends

    at_second : length after.written.bytes ≡ second
    at_second = length_after (count_part (length listed)) between.written after.written count.placed
        refl ∙ sym count.at

    bytes_there : BytesStand after.written.bytes 4 (items_bytes size place listed)
    bytes_there =
        let bytes : List ℕ = items_bytes size place listed in
        subst (λ B. take (length bytes) (drop 4 B) ≡ bytes) (sym whole)
        (ap (take (length bytes))
        (items.placed.bytes
        ∙ append_assoc bytes (replicate items.placed.padding 0) before.written.bytes)
        ∙ take-append_seam bytes (replicate items.placed.padding 0 ++ before.written.bytes))

    list_aligned : IsPowerOfTwo alignment → alignment ∣ size → (front : List ℕ)
        → Keep after.written.promises (length (front ++ after.written.bytes))
        → ListAligned (length front) size alignment xs
    list_aligned power divides front keep =
        let finished : ℕ = length (front ++ after.written.bytes) in
        let kept : Keeps finished (promise_of place (max alignment 4)) =
        (subst (λ ps. Keep ps finished) promised keep).1.0 in
        let e : finished - place ≡ length front + 4 =
        omega (arith, length-append front after.written.bytes, after_ends) in
        let greater : max alignment 4 ∣ (length front + 4) =
        subst (λ n. max alignment 4 ∣ n) e kept.aligns in
        let both : (alignment ∣ max alignment 4)
        × (4 ∣ max alignment 4) = divide_greater alignment power in
        let four : 4 ∣ (length front + 4) = dvd_trans 4 both.1 greater in
        let back : length front + 4 - 4 ≡ length front = omega arith in (
          subst (λ n. 4 ∣ n) back (dvd-sub 4 four (dvd_refl 4)),
          items_aligned size alignment (length front + 4) xs divides
              (dvd_trans alignment both.0 greater),
        )

  module _ (value : Value)
      (list : IsListOf item_of size alignment (length before.written.bytes) xs value) where
    added_kept : IsKept after value (record { distance = second; tags = None })
    added_kept =
        let fits : place ≤ 2147483647 = items.placed.fits in
        kept_at_front after value second (at_second (list.sized place))
        (list.stands after.written.bytes place (omega (arith, place_is)) fits
        (sym (after_ends (list.sized place))) (counted list.positive)
        (bytes_there (list.sized place)))
        (λ front keep. list.aligned (front ++ after.written.bytes) (length front)
        (list_aligned (list.sized place) list.power list.divides front keep))

pub list_kept : {X : Type 0} (item_of : X → Item) (size alignment : ℕ) (xs : List X) (value : Value)
    (settings : CacheSettings) (before : History) (got : List ℕ) (after : History)
    → IsListOf item_of size alignment (length before.written.bytes) xs value → AllCachedKept before
    → PutsAll settings (list_entries size alignment (map item_of xs)) [] before got after
    → IsKept after value (record { distance = last_of got; tags = None })
    × AllCachedKept after × Extends before after
list_kept item_of size alignment xs value settings before got after list all puts =
    let then = puts.3 in
    let kept = added_kept item_of size alignment xs before puts.1 then.1 puts.0 then.0 puts.2 then.2
    value list in
    let cached = cached_after item_of size alignment xs before puts.1 then.1 puts.0 then.0 puts.2
    then.2
    all in
    let extends =
    extends_both item_of size alignment xs before puts.1 then.1 puts.0 then.0 puts.2 then.2 in
    subst (λ history. IsKept history value (record { distance = last_of got; tags = None })
    × AllCachedKept history × Extends before history) (sym then.3.1) (
      subst (λ n. IsKept then.1 value (record { distance = n; tags = None }))
          (sym (ap last_of then.3.0)) kept,
      cached,
      extends,
    )
