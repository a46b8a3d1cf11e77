-- Writes to a block's places.
use Rattle.std.proofs.Common.{◌≡◌, ℕ, ◌+◌, ◌-◌, ◌≤◌, min, Bool, true, false, List, ◌++◌, length, take, drop, replicate, slice_index_or, refl, sym, ap, ◌∙◌, inl, inr, arith}
use Rattle.std.proofs.lemmas.Bool.{cases_lt}
use Rattle.std.proofs.lemmas.List.{append_assoc, length-append, length-take, length-drop, length-replicate, replicate-append-replicate, drop-drop, drop_at, take_at}
use Rattle.core.specs.Mem.Slots.Ownership.{Filled, SameOutside}
use Rattle.core.specs.Mem.Slots.{slots_items, slots_filled, slots_len}
use Rattle.core.specs.declared.slots.Slots.{Slots}
use Rattle.planus_back.specs.inner.Cells.{slots_with_run}
use Rattle.planus_back.specs.inner.Blocks.{HoldsFrom, Puts, Readies, bytes_from, capacity_of}
use Rattle.planus_back.specs.declared.block.Block.{Block}

pub zeros_more : (xs ys src : List ℕ) (at i n : ℕ) → at + i ≤ length xs → ys ≡ take at xs ++ (replicate i 0 ++ drop (at + i) xs) → src ≡ replicate n 0
    → (take (at + i) ys ++ src) ++ drop (at + i + length src) ys ≡ take at xs ++ (replicate (i + n) 0 ++ drop (at + (i + n)) xs)
zeros_more xs ys src at i n within is zeros =
    let front = take at xs ++ replicate i 0 in let tail = drop (at + i) xs in
    let long : length front ≡ at + i = omega (arith, length-append (take at xs) (replicate i 0), length-take at xs, length-replicate {A = ℕ} i 0) in
    let whole : ys ≡ front ++ tail = is ∙ sym (append_assoc (take at xs) (replicate i 0) tail) in
    let count : length src ≡ n = ap length zeros ∙ length-replicate {A = ℕ} n 0 in
    let behind : drop (at + i + length src) ys ≡ drop (at + (i + n)) xs =
    (λ k. drop (at + i + count k) (whole k)) ∙ sym (drop-drop n (at + i) (front ++ tail)) ∙ ap (drop n) (drop_at front tail (at + i) long)
    ∙ drop-drop n (at + i) xs ∙ (let sum : at + i + n ≡ at + (i + n) = omega arith in ap (λ k. drop k xs) sum) in
    append_assoc (take (at + i) ys) src (drop (at + i + length src) ys) ∙ (λ k. take (at + i) (whole k) ++ (zeros k ++ behind k)) ∙ ap (λ l. l ++ (replicate n 0 ++ drop (at + (i + n)) xs)) (take_at front tail (at + i) long)
    ∙ append_assoc (take at xs) (replicate i 0) (replicate n 0 ++ drop (at + (i + n)) xs)
    ∙ ap (λ l. take at xs ++ l) (sym (append_assoc (replicate i 0) (replicate n 0) (drop (at + (i + n)) xs)) ∙ (λ k. replicate-append-replicate i n 0 k ++ drop (at + (i + n)) xs))

pub more_filled : (fs gs : List Bool) (from to next : ℕ) → Filled fs from to → Filled gs to next → SameOutside false fs gs to next → Filled gs from next
more_filled fs gs from to next before more same k low high = elim (cases_lt k to) as (λ _. slice_index_or gs k false ≡ true) [
  | inl near ↦ same k (inl near) ∙ before k low near
  | inr far ↦ more k (omega (arith, far)) high
]

pub others_same : (fs gs hs : List Bool) (from to next : ℕ) → from ≤ to → to ≤ next → SameOutside false fs gs from to → SameOutside false gs hs to next → SameOutside false fs hs from next
others_same fs gs hs from to next le on before more k out = elim out as (λ _. slice_index_or hs k false ≡ slice_index_or fs k false) [
  | inl low ↦ more k (inl (omega (arith, low, le))) ∙ before k (inl low)
  | inr high ↦ more k (inr high) ∙ before k (inr (omega (arith, high, on)))
]

pub holds_behind : (b : Block) (start at : ℕ) → HoldsFrom b start → start ≤ at → at ≤ capacity_of b → HoldsFrom b at
holds_behind b start at h le within = record {
  block = h.block;
  within = within;
  filled = λ k low. h.filled k (omega (arith, low, le));
}

pub holds_from_lesser : (b : Block) (start to : ℕ) → HoldsFrom b start → to ≡ min b.initialized start → HoldsFrom b to
holds_from_lesser b start to h least = record {
  block = h.block;
  within = omega (arith, least, h.within);
  filled = λ k low high. elim (cases_lt k start) as (λ _. slice_index_or (slots_filled b.places) k false ≡ true) [
    | inl near ↦ h.block.initialized k (omega (arith, least, low, near)) high
    | inr far ↦ h.filled k (omega (arith, far)) high
  ];
}

pub fewer_zeros : (b b' : Block) (from at m n : ℕ) → Puts b from (replicate m 0) b' → from + m ≡ at + n → n ≤ m → at ≤ capacity_of b → Puts b at (replicate n 0) b'
fewer_zeros b b' from at m n h same le within =
    let gap = m - n in let parts : gap + n ≡ m = omega (arith, le) in let far : from + gap ≡ at = omega (arith, same, le) in
    let behind : from + length (replicate {A = ℕ} m 0) ≡ at + length (replicate {A = ℕ} n 0) = omega (arith, length-replicate {A = ℕ} m 0, length-replicate {A = ℕ} n 0, same) in
    let rest : List ℕ = bytes_from b (at + length (replicate {A = ℕ} n 0)) in
    let zeros : replicate {A = ℕ} m 0 ≡ replicate gap 0 ++ replicate n 0 = ap (λ k. replicate k 0) (sym parts) ∙ sym (replicate-append-replicate gap n 0) in
    record {
      holds = holds_behind b' from at h.holds (omega (arith, far)) (omega (arith, within, h.capacity));
      capacity = h.capacity;
      bytes = ap (λ k. bytes_from b' k) (sym far) ∙ sym (drop-drop gap from b'.places.items) ∙ ap (drop gap) (h.bytes ∙ (λ k. zeros k ++ bytes_from b (behind k)) ∙ append_assoc (replicate gap 0) (replicate n 0) rest)
          ∙ drop_at (replicate gap 0) (replicate n 0 ++ rest) gap (length-replicate {A = ℕ} gap 0);
    }

pub zeros_leave : (b b' : Block) (from n k : ℕ) → Puts b from (replicate n 0) b' → from + n ≤ k → bytes_from b' k ≡ bytes_from b k
zeros_leave b b' from n k h far =
    let zeros : List ℕ = replicate n 0 in let seam : from + length zeros ≡ from + n = omega (arith, length-replicate {A = ℕ} n 0) in
    let old : List ℕ = bytes_from b (from + length zeros) in
    let there : bytes_from b' (from + length zeros) ≡ old = sym (drop-drop (length zeros) from b'.places.items) ∙ ap (drop (length zeros)) h.bytes ∙ drop_at zeros old (length zeros) refl in
    let m = k - (from + length zeros) in let on : from + length zeros + m ≡ k = omega (arith, seam, far) in
    ap (λ j. bytes_from b' j) (sym on) ∙ sym (drop-drop m (from + length zeros) b'.places.items) ∙ ap (drop m) there
    ∙ drop-drop m (from + length zeros) b.places.items ∙ ap (λ j. bytes_from b j) on

pub made_ready : (b b' : Block) (from n at start : ℕ) → Puts b from (replicate n 0) b' → from ≤ at → at ≤ start → from + n ≤ start → start ≤ capacity_of b
    → Readies b at start (record b' { initialized = from })
made_ready b b' from n at start h le on end within = record {
  holds = record {
    block = record {
      inside = h.holds.block.inside;
      base = h.holds.block.base;
      deed = h.holds.block.deed;
      initialized = h.holds.filled;
    };
    within = omega (arith, within, on, h.capacity);
    filled = λ k low. h.holds.filled k (omega (arith, low, le));
  };
  capacity = h.capacity;
  bytes = λ k far. zeros_leave b b' from n k h (omega (arith, end, far));
}

lent_items : (a : Slots ℕ) (at n : ℕ) (ws : List ℕ) → at + n ≤ slots_len a → length ws ≡ n
    → slots_items (slots_with_run a at n ws) ≡ take at (slots_items a) ++ (ws ++ drop (at + n) (slots_items a))
lent_items a at n ws inside count =
    let xs = slots_items a in let whole : List ℕ = take at xs ++ (ws ++ drop (at + n) xs) in
    let long : length whole ≡ slots_len a = omega (arith, length-append (take at xs) (ws ++ drop (at + n) xs), length-append ws (drop (at + n) xs), length-take at xs, length-drop (at + n) xs, a.ok.0) in
    take_at whole (drop (length whole) xs) (slots_len a) long

pub put_lent : (b : Block) (at n : ℕ) (ws : List ℕ) → HoldsFrom b at → at + n ≤ capacity_of b → length ws ≡ n
    → Puts b at ws (record b { places = slots_with_run b.places at n ws })
put_lent b at n ws h inside count =
    let xs = slots_items b.places in
    let front : length (take at xs) ≡ at = omega (arith, length-take at xs, b.places.ok.0) in
    record {
      holds = record {
        block = record {
          inside = h.block.inside;
          base = h.block.base;
          deed = h.block.deed;
          initialized = h.block.initialized;
        };
        within = h.within;
        filled = h.filled;
      };
      capacity = refl;
      bytes = ap (drop at) (lent_items b.places at n ws inside count) ∙ drop_at (take at xs) (ws ++ drop (at + n) xs) at front ∙ ap (λ k. ws ++ drop (at + k) xs) (sym count);
    }

pub put_ready : (b b' b'' : Block) (at start : ℕ) (ws : List ℕ) → Readies b at start b' → Puts b' at ws b'' → start ≤ at + length ws → Puts b at ws b''
put_ready b b' b'' at start ws ready h behind =
    record {
      holds = h.holds;
      capacity = h.capacity ∙ ready.capacity;
      bytes = h.bytes ∙ ap (λ l. ws ++ l) (ready.bytes (at + length ws) behind);
    }

pub put_over : (b b' b'' : Block) (at : ℕ) (part ws : List ℕ) → Puts b at part b' → Puts b' at ws b'' → length ws ≡ length part → Puts b at ws b''
put_over b b' b'' at part ws first then same =
    let seam : at + length ws ≡ at + length part = omega (arith, same) in let old : List ℕ = bytes_from b (at + length part) in
    let there : bytes_from b' (at + length part) ≡ old = sym (drop-drop (length part) at b'.places.items) ∙ ap (drop (length part)) first.bytes ∙ drop_at part old (length part) refl in
    record {
      holds = then.holds;
      capacity = then.capacity ∙ first.capacity;
      bytes = then.bytes ∙ ap (λ l. ws ++ l) (ap (λ k. bytes_from b' k) seam ∙ there ∙ ap (λ k. bytes_from b k) (sym seam));
    }
