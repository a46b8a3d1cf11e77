-- The numbers and fields in a table's bytes.
use Rattle.std.proofs.Common.{◌≡◌, ℕ, zero, suc, ◌+◌, ◌-◌, ◌*◌, ◌<◌, ◌≤◌, ◌^◌, max, List, [], ◌∷◌}
use Rattle.std.proofs.Common.{◌++◌, length, drop, refl, ap, ◌∙◌, subst, arith, Option, Some, None}
use Rattle.std.proofs.Common.{length-append, inl, inr, true, false, Bool, ◌==◌, if◌then◌else◌}
use Rattle.std.specs.Prelude.{nat_le, ⊤}
use Rattle.std.specs.Int.{w16, w32, to_le_bytes, from_le_bytes, ◌∣◌}
use Rattle.std.specs.List.{AllByRecursion}
use Rattle.std.proofs.lemmas.Nat.{from_le_bytes-to_le_bytes_2}
use Rattle.std.proofs.lemmas.Nat.Gcd.{dvd_refl, dvd_trans}
use Rattle.std.proofs.lemmas.Bool.{cases_lt}
use Rattle.std.proofs.lemmas.Bool.Decides.{nat_tests}
use Rattle.std.proofs.lemmas.List.{length-take, length-drop}
use Rattle.std.proofs.Math.Nat.{dvd-add}
use Rattle.planus_back.specs.Promises.{IsPowerOfTwo}
use Rattle.planus_back.proofs.Lists.{power_divides}
use Rattle.planus_read.specs.Bytes.{Num, BytesStand}
use Rattle.planus_read.specs.Values.{Field, plain, reference, tags, values, field_at, slot_count}
use Rattle.planus_read.specs.Values.{vtable_size}
use Rattle.planus_read.specs.Stands.{FieldStands, SlotStands, ReferenceStands}
use Rattle.planus_read.specs.Aligned.{field_alignment, SlotAligned}
use Rattle.planus_read.proofs.Bytes.{parts_stand}
use Rattle.planus_write.specs.Tables.{field_item, field_size, body_size, body_alignment, body_bytes}
use Rattle.planus_write.specs.Tables.{object_size, field_offset, slots_bytes, vtable_bytes}
use Rattle.planus_write.specs.Tables.{IsFieldAfter}
use Rattle.planus_write.specs.Tables.{Falling}
use Rattle.planus_write.specs.lemmas.KeptLists.{number_there}

short_there : (B : List ℕ) (k n : ℕ) → n < 2 ^ 16 → k + 2 ≤ length B
    → BytesStand B k (to_le_bytes w16 n) → Num B k w16 ≡ Some n
short_there B k n small inside there =
    let within : nat_le (k + 2) (length B) ≡ true = grind (arith, nat_tests, inside) in
    rw within (ap Some (ap (from_le_bytes w16) there ∙ from_le_bytes-to_le_bytes_2 n small))

pub stand_inside : (B bytes : List ℕ) (k : ℕ) → k ≤ length B → BytesStand B k bytes
    → k + length bytes ≤ length B
stand_inside B bytes k le there =
    let e = ap length there in
    let f = length-take (length bytes) (drop k B) in
    let g = length-drop k B in
    omega (arith, e, f, g, le)

item_length : (field : Field) (place : ℕ) → length (field_item field place) ≡ field_size field
item_length (plain item) place = refl
item_length (reference distance) place = refl
item_length (tags distance) place = refl
item_length (values distance) place = refl

pub body_length : (entries : List (ℕ × Field)) (place : ℕ)
    → length (body_bytes place entries) ≡ body_size entries
body_length [] place = refl
body_length (entry ∷ entries) place =
    let first = item_length entry.1 place in
    let rest = body_length entries (place - field_size entry.1) in
    length-append (field_item entry.1 place) (body_bytes (place - field_size entry.1) entries)
    ∙ omega (arith, first, rest)

slots_length : (entries : List (ℕ × Field)) (slot n : ℕ)
    → length (slots_bytes entries slot n) ≡ 2 * n
slots_length entries slot zero = refl
slots_length entries slot (suc n) = let e = slots_length entries (slot + 1) n in omega (arith, e)

pub vtable_length : (entries : List (ℕ × Field))
    → length (vtable_bytes entries) ≡ vtable_size entries
vtable_length entries = let e = slots_length entries 0 (slot_count entries) in omega (arith, e)

slot_there : (B : List ℕ) (entries : List (ℕ × Field)) (n slot s i : ℕ) → i < n
    → BytesStand B s (slots_bytes entries slot n)
    → BytesStand B (s + 2 * i) (to_le_bytes w16 (field_offset 4 entries (slot + i)))
slot_there B entries zero slot s i below there = absurd (omega (arith, below))
slot_there B entries (suc n) slot s zero below there =
    let both = parts_stand B (to_le_bytes w16 (field_offset 4 entries slot))
    (slots_bytes entries (slot + 1) n) s there in
    let at : s ≡ s + 2 * 0 = omega arith in
    let of : slot ≡ slot + 0 = omega arith in
    subst (λ k. BytesStand B k (to_le_bytes w16 (field_offset 4 entries (slot + 0)))) at
    (subst (λ j. BytesStand B s (to_le_bytes w16 (field_offset 4 entries j))) of both.0)
slot_there B entries (suc n) slot s (suc i) below there =
    let both = parts_stand B (to_le_bytes w16 (field_offset 4 entries slot))
    (slots_bytes entries (slot + 1) n) s there in
    let at : s + 2 + 2 * i ≡ s + 2 * (suc i) = omega arith in
    let of : slot + 1 + i ≡ slot + suc i = omega arith in
    subst (λ k. BytesStand B k (to_le_bytes w16 (field_offset 4 entries (slot + suc i)))) at
    (subst (λ j. BytesStand B (s + 2 + 2 * i) (to_le_bytes w16 (field_offset 4 entries j))) of
    (slot_there B entries n (slot + 1) (s + 2) i (omega (arith, below)) both.1))

reference_there : (B : List ℕ) (before distance k place : ℕ) → distance ≤ before
    → before + 4 ≤ place → place ≤ 2147483647 → k + place ≡ length B
    → BytesStand B k (to_le_bytes w32 (place - distance)) → ReferenceStands B k distance
reference_there B before distance k place good inside small goes bytes = (
  place - distance,
  number_there B k (place - distance) (omega (arith, small)) (omega (arith, inside, goes)) bytes,
  omega (arith, good, inside, goes),
)

field_there : (B : List ℕ) (before : ℕ) (field : Field) (k place : ℕ) → IsFieldAfter before field
    → before + field_size field ≤ place → place ≤ 2147483647 → k + place ≡ length B
    → BytesStand B k (field_item field place) → FieldStands B k field
field_there B before (plain item) k place good inside small goes bytes = bytes
field_there B before (reference distance) k place good inside small goes bytes =
    reference_there B before distance k place good inside small goes bytes
field_there B before (tags distance) k place good inside small goes bytes =
    reference_there B before distance k place good inside small goes bytes
field_there B before (values distance) k place good inside small goes bytes =
    reference_there B before distance k place good inside small goes bytes

tested : (P : ℕ → Option Field → Type 0) (same : Bool) (q r : ℕ) (f g : Option Field)
    → P q f → P r g
    → P (if same then q else r) (if same then f else g)
tested P true q r f g here further = here
tested P false q r f g here further = further

offset_inside : (entries : List (ℕ × Field)) (from slot : ℕ)
    → field_offset from entries slot ≤ from + body_size entries
offset_inside [] from slot = omega arith
offset_inside (entry ∷ entries) from slot =
    let next : ℕ = from + field_size entry.1 in
    let rest : field_offset next entries slot ≤ next + body_size entries =
    offset_inside entries next slot in
    tested (λ q field. q ≤ from + (field_size entry.1 + body_size entries)) (entry.0 == slot) from
    (field_offset next entries slot) None None (omega arith) (omega (arith, rest))

abbrev FieldFound : List ℕ → ℕ → ℕ → Option Field → Type 0
FieldFound B k q None = q ≡ 0
FieldFound B k q (Some field) = (4 ≤ q) × FieldStands B (k + q) field

module _ (B : List ℕ) (before k : ℕ) where
  pub fields_stand : (entries : List (ℕ × Field)) (from place slot : ℕ)
      → AllByRecursion (λ entry. IsFieldAfter before entry.1) entries
      → before + body_size entries ≤ place → place ≤ 2147483647
      → k + from + place ≡ length B → 4 ≤ from
      → BytesStand B (k + from) (body_bytes place entries)
      → FieldFound B k (field_offset from entries slot) (field_at entries slot)
  fields_stand [] from place slot good inside fits ends behind there = refl
  fields_stand (entry ∷ entries) from place slot good inside fits ends behind there =
      let size : ℕ = field_size entry.1 in
      let rest : List ℕ = body_bytes (place - size) entries in
      let both : BytesStand B (k + from) (field_item entry.1 place)
      × BytesStand B (k + from + length (field_item entry.1 place)) rest =
      parts_stand B (field_item entry.1 place) rest (k + from) there in
      let here : FieldStands B (k + from) entry.1 =
      field_there B before entry.1 (k + from) place good.0 (omega (arith, inside)) fits ends
      both.0 in
      let at : k + from + length (field_item entry.1 place) ≡ k + (from + size) = let e =
      item_length entry.1 place in omega (arith, e) in
      let next : BytesStand B (k + (from + size)) rest =
      subst (λ n. BytesStand B n rest) at both.1 in
      let further =
      fields_stand entries (from + size) (place - size) slot good.1 (omega (arith, inside))
      (omega (arith, fits)) (omega (arith, inside, ends)) (omega (arith, behind)) next in
      tested (FieldFound B k) (entry.0 == slot) from (field_offset (from + size) entries slot)
      (Some entry.1) (field_at entries slot) (behind, here) further

field_power : (before : ℕ) (field : Field) → IsFieldAfter before field
    → IsPowerOfTwo (field_alignment field) × (field_alignment field ∣ field_size field)
field_power before (plain item) good = (good.2, good.1)
field_power before (reference distance) good = ((2, refl), dvd_refl 4)
field_power before (tags distance) good = ((2, refl), dvd_refl 4)
field_power before (values distance) good = ((2, refl), dvd_refl 4)

abbrev Headed : ℕ → List (ℕ × Field) → Type 0
Headed a [] = ⊤
Headed a (entry ∷ entries) = field_alignment entry.1 ≤ a

falling_rest : (entry : ℕ × Field) (entries : List (ℕ × Field)) → Falling (entry ∷ entries)
    → Headed (field_alignment entry.1) entries × Falling entries
falling_rest entry [] falling = (tt, tt)
falling_rest entry (second ∷ entries) falling = falling

abbrev FieldAligned : ℕ → ℕ → Option Field → Type 0
FieldAligned k q None = ⊤
FieldAligned k q (Some field) = field_alignment field ∣ (k + q)

module _ (before k : ℕ) where
  pub fields_aligned : (entries : List (ℕ × Field)) (from slot a : ℕ)
      → AllByRecursion (λ entry. IsFieldAfter before entry.1) entries → Falling entries
      → IsPowerOfTwo a → a ∣ (k + from) → Headed a entries
      → FieldAligned k (field_offset from entries slot) (field_at entries slot)
  fields_aligned [] from slot a good falling power divides headed = tt
  fields_aligned (entry ∷ entries) from slot a good falling power divides headed =
      let size : ℕ = field_size entry.1 in
      let b : ℕ = field_alignment entry.1 in
      let of : IsPowerOfTwo b × (b ∣ size) = field_power before entry.1 good.0 in
      let here : b ∣ (k + from) = dvd_trans b (power_divides b a of.0 power headed) divides in
      let at : k + from + size ≡ k + (from + size) = omega arith in
      let next : b ∣ (k + (from + size)) = subst (λ n. b ∣ n) at (dvd-add b here of.1) in
      let rest = falling_rest entry entries falling in
      let further = fields_aligned entries (from + size) slot b good.1 rest.1 of.0 next rest.0 in
      tested (FieldAligned k) (entry.0 == slot) from (field_offset (from + size) entries slot)
      (Some entry.1) (field_at entries slot) here further

greater_power : (a b : ℕ) → IsPowerOfTwo a → IsPowerOfTwo b → IsPowerOfTwo (max a b)
greater_power a b first second =
    elim (cases_lt a b) as (λ _. IsPowerOfTwo (max a b)) [
      | inl lt ↦ (let e : b ≡ max a b = omega (arith, lt) in subst (λ n. IsPowerOfTwo n) e second)
      | inr le ↦ (let e : a ≡ max a b = omega (arith, le) in subst (λ n. IsPowerOfTwo n) e first)
    ]

pub body_power : (before : ℕ) (entries : List (ℕ × Field))
    → AllByRecursion (λ entry. IsFieldAfter before entry.1) entries
    → IsPowerOfTwo (body_alignment entries) × (4 ≤ body_alignment entries)
    × Headed (body_alignment entries) entries
body_power before [] good = ((2, refl), omega arith, tt)
body_power before (entry ∷ entries) good =
    let rest = body_power before entries good.1 in
    let least : 4 ≤ body_alignment entries = rest.1 in (
      greater_power (field_alignment entry.1) (body_alignment entries)
          (field_power before entry.1 good.0).0 rest.0,
      omega (arith, least),
      omega arith,
    )

module _ (B : List ℕ) (t : ℕ) (entries : List (ℕ × Field))
    (there : BytesStand B t (vtable_bytes entries))
    (inside : t + vtable_size entries ≤ length B) where
  abbrev slots_are : List ℕ
  slots_are = slots_bytes entries 0 (slot_count entries)

  pub size_there : vtable_size entries ≤ 65534 → Num B t w16 ≡ Some (vtable_size entries)
  size_there fits =
      short_there B t (vtable_size entries) (omega (arith, fits)) (omega (arith, inside))
      (parts_stand B (to_le_bytes w16 (vtable_size entries))
      (to_le_bytes w16 (object_size entries) ++ slots_are) t there).0

  pub offset_there : object_size entries ≤ 65535 → (i : ℕ) → 2 * i + 6 ≤ vtable_size entries
      → Num B (t + 4 + 2 * i) w16 ≡ Some (field_offset 4 entries i)
  offset_there fits i within =
      let behind =
      (parts_stand B (to_le_bytes w16 (vtable_size entries))
      (to_le_bytes w16 (object_size entries) ++ slots_are) t there).1 in
      let slots : BytesStand B (t + 2 + 2) slots_are =
      (parts_stand B (to_le_bytes w16 (object_size entries)) slots_are (t + 2) behind).1 in
      let at : t + 2 + 2 + 2 * i ≡ t + 4 + 2 * i = omega arith in
      let of : 0 + i ≡ i = omega arith in
      let small : field_offset 4 entries i ≤ 4 + body_size entries = offset_inside entries 4 i in
      short_there B (t + 4 + 2 * i) (field_offset 4 entries i) (omega (arith, small, fits))
      (omega (arith, within, inside))
      (subst (λ s. BytesStand B s (to_le_bytes w16 (field_offset 4 entries i))) at
      (subst (λ j. BytesStand B (t + 2 + 2 + 2 * i) (to_le_bytes w16 (field_offset 4 entries j))) of
      (slot_there B entries (slot_count entries) 0 (t + 2 + 2) i (omega (arith, within)) slots)))

pub slot_stands : (B : List ℕ) (k s q : ℕ) (field : Option Field) → Num B s w16 ≡ Some q
    → FieldFound B k q field → SlotStands B k s field
slot_stands B k s q None number found = number ∙ ap Some found
slot_stands B k s q (Some field) number found = (q, number, found.0, found.1)

pub slot_aligned : (B : List ℕ) (k s q : ℕ) (field : Option Field) → Num B s w16 ≡ Some q
    → FieldAligned k q field → SlotAligned B k s field
slot_aligned B k s q None number aligned = tt
slot_aligned B k s q (Some field) number aligned = (q, number, aligned)
