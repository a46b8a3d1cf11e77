-- A writer of a table and what it was told.
use Rattle.std.proofs.Common.{◌≡◌, ℕ, zero, suc, ◌+◌, ◌-◌, ◌*◌, ◌<◌, ◌≤◌, ◌^◌, max, List, [], ◌∷◌, ◌++◌}
use Rattle.std.proofs.Common.{length, take, drop, replicate, refl, sym, ap, ◌∙◌, subst, arith, append_assoc}
use Rattle.std.proofs.Common.{length-append, take-add, drop-drop, inl, inr, Bool, true, false}
use Rattle.std.specs.Prelude.{◌==◌, if◌then◌else◌, ◌⊎◌}
use Rattle.std.specs.Int.{w16, to_le_bytes, from_le_bytes}
use Rattle.std.proofs.Common.{lit<}
use Rattle.std.proofs.lemmas.Nat.{from_le_bytes-to_le_bytes_2}
use Rattle.std.proofs.lemmas.List.{length-take-le, length-drop, take-append-le, drop-append-le, take-append-drop}
use Rattle.std.proofs.lemmas.Bool.Decides.{nat_tests}
use Rattle.std.proofs.lemmas.Bool.{cases_lt}
use Rattle.std.proofs.lemmas.List.{length-replicate, drop-replicate}
use Rattle.std.proofs.Math.Seq.{take-append_seam, drop-append_seam, drop-append-add, take-append-add}
use Rattle.planus_back.specs.Promises.{IsPowerOfTwo}
use Rattle.planus_read.specs.Bytes.{BytesStand}
use Rattle.planus_write.specs.Tables.{Declared, total_size, greatest_of, slots_used, offset_in, offsets_bytes, vtable_of}
use Rattle.planus_write.specs.TableWriting.{Writer, WasTold, slot_position}

abbrev pub with_pair : ℕ → List ℕ → List ℕ → List ℕ
with_pair at pair B = take at B ++ (pair ++ drop (at + 2) B)

module _ (B pair : List ℕ) (at : ℕ) (two : length pair ≡ 2) (inside : at + 2 ≤ length B) where
  front_length : length (take at B) ≡ at
  front_length = length-take-le at B (omega (arith, inside))

  pub pair_length : length (with_pair at pair B) ≡ length B
  pair_length =
      length-append (take at B) (pair ++ drop (at + 2) B)
      ∙ let f = front_length in let p = length-append pair (drop (at + 2) B) in let d = length-drop (at + 2) B in omega (arith, f, p, d, two, inside)

  pub pair_there : BytesStand (with_pair at pair B) at pair
  pair_there =
      ap (λ n. take (length pair) (drop n (with_pair at pair B))) (sym front_length)
      ∙ ap (take (length pair)) (drop-append_seam (take at B) (pair ++ drop (at + 2) B)) ∙ take-append_seam pair (drop (at + 2) B)

  before : (p n : ℕ) (more : List ℕ) → p + n ≤ at → take n (drop p (take at B ++ more)) ≡ take n (drop p (take at B))
  before p n more le =
      let f = front_length in
      let rest : length (drop p (take at B)) ≡ length (take at B) - p = length-drop p (take at B) in
      ap (take n) (drop-append-le p (take at B) more (omega (arith, f, le)))
      ∙ take-append-le n (drop p (take at B)) more (omega (arith, rest, f, le))

  behind : (p n : ℕ) → at + 2 ≤ p → take n (drop p (with_pair at pair B)) ≡ take n (drop p B)
  behind p n le =
      let f = front_length in
      let whole : with_pair at pair B ≡ (take at B ++ pair) ++ drop (at + 2) B = sym (append_assoc (take at B) pair (drop (at + 2) B)) in
      let long : length (take at B ++ pair) ≡ at + 2 = length-append (take at B) pair ∙ omega (arith, f, two) in
      let far : p ≡ length (take at B ++ pair) + (p - (at + 2)) = omega (arith, long, le) in
      ap (λ m. take n (drop m (with_pair at pair B))) far
      ∙ ap (λ bytes. take n (drop (length (take at B ++ pair) + (p - (at + 2))) bytes)) whole
      ∙ ap (take n) (drop-append-add (take at B ++ pair) (drop (at + 2) B) (p - (at + 2)) ∙ drop-drop (p - (at + 2)) (at + 2) B)
      ∙ ap (λ m. take n (drop m B)) (let e : at + 2 + (p - (at + 2)) ≡ p = omega (arith, le) in e)

  pub pair_elsewhere : (p : ℕ) (bytes : List ℕ) → (p + length bytes ≤ at) ⊎ (at + 2 ≤ p) → BytesStand B p bytes → BytesStand (with_pair at pair B) p bytes
  pair_elsewhere p bytes (inl le) there =
      before p (length bytes) (pair ++ drop (at + 2) B) le ∙ sym (before p (length bytes) (drop at B) le)
      ∙ ap (λ whole. take (length bytes) (drop p whole)) (take-append-drop at B) ∙ there
  pair_elsewhere p bytes (inr le) there = behind p (length bytes) le ∙ there

greatest_more : (declared : List Declared) (one : Declared) → greatest_of (declared ++ one ∷ []) ≡ max (greatest_of declared) one.alignment
greatest_more [] one = omega arith
greatest_more (first ∷ declared) one = let e = greatest_more declared one in omega (arith, e)

total_more : (declared : List Declared) (one : Declared) → total_size (declared ++ one ∷ []) ≡ total_size declared + one.size
total_more [] one = omega arith
total_more (first ∷ declared) one = let e = total_more declared one in omega (arith, e)

used_more : (declared : List Declared) (one : Declared) → slots_used (declared ++ one ∷ []) ≡ max (slots_used declared) (one.slot + 1)
used_more [] one = omega arith
used_more (first ∷ declared) one = let e = used_more declared one in omega (arith, e)

offset_new : (from : ℕ) (declared : List Declared) (one : Declared) → 0 < from → offset_in from declared one.slot ≡ 0 → offset_in from (declared ++ one ∷ []) one.slot ≡ from + total_size declared
offset_new from [] one positive none = rw (same_number one.slot) (omega arith)
  where
    same_number : (n : ℕ) → (n == n) ≡ true
    same_number n = grind (arith, nat_tests)
offset_new from (first ∷ declared) one positive none =
    by_test (λ h. offset_new (from + first.size) declared one (omega (arith, positive)) h) (first.slot == one.slot) none
  where
    by_test : (offset_in (from + first.size) declared one.slot ≡ 0 → offset_in (from + first.size) (declared ++ one ∷ []) one.slot ≡ from + first.size + total_size declared) → (same : Bool) → (if same then from else offset_in (from + first.size) declared one.slot) ≡ 0
        → (if same then from else offset_in (from + first.size) (declared ++ one ∷ []) one.slot) ≡ from + (first.size + total_size declared)
    by_test later true h = absurd (omega (arith, h, positive))
    by_test later false h = let e = later h in omega (arith, e)

offset_other : (from : ℕ) (declared : List Declared) (one : Declared) (slot : ℕ) → (one.slot == slot) ≡ false → offset_in from (declared ++ one ∷ []) slot ≡ offset_in from declared slot
offset_other from [] one slot other = rw other refl
offset_other from (first ∷ declared) one slot other = ap (λ (rest : ℕ). if first.slot == slot then from else rest) (offset_other (from + first.size) declared one slot other)

offset_small : (from : ℕ) (declared : List Declared) (slot : ℕ) → offset_in from declared slot ≤ from + total_size declared
offset_small from [] slot = omega arith
offset_small from (first ∷ declared) slot = by_test (offset_small (from + first.size) declared slot) (first.slot == slot)
  where
    by_test : offset_in (from + first.size) declared slot ≤ from + first.size + total_size declared → (same : Bool) → (if same then from else offset_in (from + first.size) declared slot) ≤ from + (first.size + total_size declared)
    by_test later true = omega arith
    by_test later false = omega (arith, later)

zero_of : (n : ℕ) → n < 2 ^ 16 → to_le_bytes w16 n ≡ 0 ∷ 0 ∷ [] → n ≡ 0
zero_of n small e = sym (from_le_bytes-to_le_bytes_2 n small) ∙ ap (from_le_bytes w16) e

module _ (old : Writer) (one : Declared) (new : Writer) (inside : slot_position one.slot + 2 ≤ length old.vtable)
    (unused : BytesStand old.vtable (slot_position one.slot) (0 ∷ 0 ∷ [])) (fits : old.object_size + one.size ≤ 65535) (positive : 0 < one.alignment)
    (vtable_is : new.vtable ≡ with_pair (slot_position one.slot) (to_le_bytes w16 old.object_size) old.vtable)
    (size_is : new.vtable_size ≡ max old.vtable_size (slot_position one.slot + 2)) (object_is : new.object_size ≡ old.object_size + one.size)
    (mask_is : new.mask ≡ max old.mask (one.alignment - 1)) where
  module _ (declared : List Declared) (told : WasTold old declared) where
    none : offset_in 4 declared one.slot ≡ 0
    none =
        let small = offset_small 4 declared one.slot in
        let size = told.object_size in
        zero_of (offset_in 4 declared one.slot) (omega (arith, small, size, fits)) (sym (told.slots one.slot inside) ∙ unused)

    slots_told : (slot : ℕ) → slot_position slot + 2 ≤ length new.vtable → BytesStand new.vtable (slot_position slot) (to_le_bytes w16 (offset_in 4 (declared ++ one ∷ []) slot))
    slots_told slot within = by_test (one.slot == slot) refl
      where
        long : length new.vtable ≡ length old.vtable
        long = ap length vtable_is ∙ pair_length old.vtable (to_le_bytes w16 old.object_size) (slot_position one.slot) refl inside

        by_test : (same : Bool) → (one.slot == slot) ≡ same → BytesStand new.vtable (slot_position slot) (to_le_bytes w16 (offset_in 4 (declared ++ one ∷ []) slot))
        by_test true e =
            let at : one.slot ≡ slot = grind (arith, nat_tests, e) in
            let value : offset_in 4 (declared ++ one ∷ []) one.slot ≡ old.object_size = offset_new 4 declared one (lit< tt) none ∙ sym told.object_size in
            subst (λ n. BytesStand new.vtable (slot_position n) (to_le_bytes w16 (offset_in 4 (declared ++ one ∷ []) n))) at
            (subst (λ v. BytesStand new.vtable (slot_position one.slot) (to_le_bytes w16 v)) (sym value)
            (subst (λ B. BytesStand B (slot_position one.slot) (to_le_bytes w16 old.object_size)) (sym vtable_is)
            (pair_there old.vtable (to_le_bytes w16 old.object_size) (slot_position one.slot) refl inside)))
        by_test false e =
            let apart : (slot_position slot + 2 ≤ slot_position one.slot) ⊎ (slot_position one.slot + 2 ≤ slot_position slot) = elim (cases_lt slot one.slot) as (λ _. (slot_position slot + 2 ≤ slot_position one.slot) ⊎ (slot_position one.slot + 2 ≤ slot_position slot)) [
              | inl less ↦ inl (omega (arith, less))
              | inr more ↦ inr (let other : ¬ (one.slot ≡ slot) = (λ same. (let t : (one.slot == slot) ≡ true = grind (arith, nat_tests, same) in absurd (cc))) in omega (arith, more, other))
            ] in
            subst (λ v. BytesStand new.vtable (slot_position slot) (to_le_bytes w16 v)) (sym (offset_other 4 declared one slot e))
            (subst (λ B. BytesStand B (slot_position slot) (to_le_bytes w16 (offset_in 4 declared slot))) (sym vtable_is)
            (pair_elsewhere old.vtable (to_le_bytes w16 old.object_size) (slot_position one.slot) refl inside (slot_position slot) (to_le_bytes w16 (offset_in 4 declared slot)) apart (told.slots slot (omega (arith, within, long)))))

    pub told_more : WasTold new (declared ++ one ∷ [])
    told_more = record {
      slots = slots_told;
      vtable_size = let u = used_more declared one in let v = told.vtable_size in omega (arith, u, v, size_is);
      object_size = let t = total_more declared one in let o = told.object_size in omega (arith, t, o, object_is);
      alignment = let g = greatest_more declared one in let a = told.alignment in omega (arith, g, a, mask_is, positive);
      inside = let i = told.inside in let l = ap length vtable_is ∙ pair_length old.vtable (to_le_bytes w16 old.object_size) (slot_position one.slot) refl inside in omega (arith, i, l, size_is, inside);
    }

zeros_stand : (n p : ℕ) → p + 2 ≤ n → BytesStand (replicate n 0) p (0 ∷ 0 ∷ [])
zeros_stand n p le =
    let left : n - p ≡ suc (suc (n - p - 2)) = omega (arith, le) in
    let zero_byte : ℕ = 0 in
    ap (take 2) (drop-replicate p n zero_byte) ∙ ap (λ m. take 2 (replicate m zero_byte)) left

pub told_nothing : (N : ℕ) → 4 ≤ N → WasTold (record { vtable = replicate N 0; vtable_size = 4; object_size = 4; mask = 3 }) []
told_nothing N enough = record {
  slots = λ slot within. (let l = length-replicate {A = ℕ} N 0 in zeros_stand N (slot_position slot) (omega (arith, within, l)));
  vtable_size = refl;
  object_size = refl;
  alignment = refl;
  inside = (let l = length-replicate {A = ℕ} N 0 in omega (arith, enough, l));
}

slots_taken : (writer : Writer) (declared : List Declared) → WasTold writer declared → (n slot : ℕ) → 4 + 2 * (slot + n) ≤ length writer.vtable
    → take (2 * n) (drop (4 + 2 * slot) writer.vtable) ≡ offsets_bytes declared slot n
slots_taken writer declared told zero slot within = refl
slots_taken writer declared told (suc n) slot within =
    let L : List ℕ = drop (4 + 2 * slot) writer.vtable in
    let first : take 2 L ≡ to_le_bytes w16 (offset_in 4 declared slot) =
    ap (λ p. take 2 (drop p writer.vtable)) (let e : 4 + 2 * slot ≡ slot_position slot = omega arith in e) ∙ told.slots slot (omega (arith, within)) in
    let rest : take (2 * n) (drop 2 L) ≡ offsets_bytes declared (slot + 1) n =
    ap (take (2 * n)) (drop-drop 2 (4 + 2 * slot) writer.vtable ∙ ap (λ p. drop p writer.vtable) (let e : 4 + 2 * slot + 2 ≡ 4 + 2 * (slot + 1) = omega arith in e))
    ∙ slots_taken writer declared told n (slot + 1) (omega (arith, within)) in
    ap (λ m. take m L) (let e : 2 * suc n ≡ 2 + 2 * n = omega arith in e) ∙ take-add 2 (2 * n) L ∙ ap (λ xs. xs ++ take (2 * n) (drop 2 L)) first
    ∙ ap (λ xs. to_le_bytes w16 (offset_in 4 declared slot) ++ xs) rest

pub written_vtable : (writer : Writer) (declared : List Declared) → WasTold writer declared
    → take writer.vtable_size (with_pair 2 (to_le_bytes w16 writer.object_size) (with_pair 0 (to_le_bytes w16 writer.vtable_size) writer.vtable)) ≡ vtable_of (slots_used declared) declared
written_vtable writer declared told =
    let n : ℕ = slots_used declared in
    let sizes : List ℕ = to_le_bytes w16 writer.vtable_size ++ to_le_bytes w16 writer.object_size in
    let i = told.inside in
    let v : writer.vtable_size ≡ 4 + 2 * n = told.vtable_size in
    let whole : with_pair 2 (to_le_bytes w16 writer.object_size) (with_pair 0 (to_le_bytes w16 writer.vtable_size) writer.vtable) ≡ sizes ++ drop 2 (drop 2 writer.vtable) = refl in
    ap (λ m. take m (sizes ++ drop 2 (drop 2 writer.vtable))) v
    ∙ take-append-add sizes (drop 2 (drop 2 writer.vtable)) (2 * n)
    ∙ ap (λ xs. sizes ++ xs) (ap (take (2 * n)) (drop-drop 2 2 writer.vtable) ∙ slots_taken writer declared told n 0 (omega (arith, i, v)))
    ∙ ap (λ (p : ℕ × ℕ). (to_le_bytes w16 p.0 ++ to_le_bytes w16 p.1) ++ offsets_bytes declared 0 n) (let e : (writer.vtable_size, writer.object_size) ≡ (4 + 2 * n, 4 + total_size declared) = rw (v, told.object_size) refl in e)

pub greater_power : (a b : ℕ) → IsPowerOfTwo a → IsPowerOfTwo b → IsPowerOfTwo (max a b)
greater_power a b first second = elim (cases_lt a b) as (λ _. IsPowerOfTwo (max a b)) [
  | inl less ↦ (let e : b ≡ max a b = omega (arith, less) in subst IsPowerOfTwo e second)
  | inr more ↦ (let e : a ≡ max a b = omega (arith, more) in subst IsPowerOfTwo e first)
]
