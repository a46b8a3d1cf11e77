-- Bytes that are compared 8 at a time.
use Rattle.std.proofs.Common.{◌≡◌, ℕ, ◌+◌, ◌-◌, ◌<◌, ◌≤◌, List, ◌++◌, length, take, drop, sym, ap, ◌∙◌, arith, append_assoc, length-append, inl, inr}
use Rattle.std.proofs.lemmas.Bool.{cases_lt}
use Rattle.std.proofs.lemmas.Grind.{common_steps}
use Rattle.std.proofs.lemmas.List.{append_cancel_left, get_or-append-add, get_or_append_left, take-append-drop, drop-append-le}
use Rattle.std.proofs.lemmas.Nat.{le_bytes_8}
use Rattle.std.specs.Int.{w64, from_le_bytes, to_le_bytes}
use Rattle.planus_back.specs.Bytes.{AreBytes}
use Rattle.planus_back.proofs.Hashes.{cut_at, eight_of}

bytes_behind : (front bytes : List ℕ) → AreBytes (front ++ bytes) → AreBytes bytes
bytes_behind front bytes are i = let e = get_or-append-add front bytes i 0 in rw e at (are (length front + i))

bytes_in_front : (bytes behind : List ℕ) → AreBytes (bytes ++ behind) → AreBytes bytes
bytes_in_front bytes behind are i = elim (cases_lt i (length bytes)) [
  | inl lt ↦ (let e = get_or_append_left bytes behind 0 i lt in rw e at (are i))
  | inr le ↦ grind (arith, common_steps, le)
]

same_words : (word other : List ℕ) (n m : ℕ) → length word ≡ 8 → length other ≡ 8 → AreBytes word → AreBytes other
    → n ≡ from_le_bytes w64 word → m ≡ from_le_bytes w64 other → n ≡ m → word ≡ other
same_words word other n m eight eight_too are are_too number number_too same =
    sym (le_bytes_8 word n eight are number) ∙ ap (to_le_bytes w64) same ∙ le_bytes_8 other m eight_too are_too number_too

module _ (whole other_whole front left right : List ℕ) (is : whole ≡ front ++ left) (is_too : other_whole ≡ front ++ right) (long : length whole ≡ length other_whole) where
  pub rest_same : length left < 8 → 8 ≤ length whole → drop (length whole - 8) whole ≡ drop (length other_whole - 8) other_whole → whole ≡ other_whole
  rest_same few eight last =
      let at = length whole - 8 in
      let len : length whole ≡ length front + length left = ap length is ∙ length-append front left in
      let within : at ≤ length front = omega (arith, len, few, eight) in
      let at_too : length other_whole - 8 ≡ at = omega (arith, long) in
      let mine : drop at whole ≡ drop at front ++ left = ap (drop at) is ∙ drop-append-le at front left within in
      let its : drop (length other_whole - 8) other_whole ≡ drop at front ++ right = ap (λ n. drop n other_whole) at_too ∙ ap (drop at) is_too ∙ drop-append-le at front right within in
      is ∙ ap (λ xs. front ++ xs) (append_cancel_left (drop at front) left right (sym mine ∙ last ∙ its)) ∙ sym is_too

  module _ (word behind other rest : List ℕ) (n m : ℕ) (word_is : word ≡ take 8 left) (behind_is : behind ≡ drop 8 left) (behind_long : length behind + 8 ≡ length left)
      (other_is : other ≡ take 8 right) (rest_is : rest ≡ drop 8 right) (rest_long : length rest + 8 ≡ length right)
      (number : n ≡ from_le_bytes w64 word) (number_too : m ≡ from_le_bytes w64 other) where
    pub words_differ : (n ≡ m → ⊥) → whole ≡ other_whole → ⊥
    words_differ apart same =
        let rests : left ≡ right = append_cancel_left front left right (sym is ∙ same ∙ is_too) in
        apart (number ∙ ap (from_le_bytes w64) (word_is ∙ ap (take 8) rests ∙ sym other_is) ∙ sym number_too)

    pub words_same : AreBytes whole → AreBytes other_whole → n ≡ m → (x : List ℕ) × (whole ≡ x ++ behind) × (other_whole ≡ x ++ rest)
    words_same are are_too same =
        let cut : left ≡ word ++ behind = cut_at left word behind word_is behind_is in
        let cut_too : right ≡ other ++ rest = cut_at right other rest other_is rest_is in
        let bytes : AreBytes word = bytes_in_front word behind (rw cut at (bytes_behind front left (rw is at are))) in
        let bytes_too : AreBytes other = bytes_in_front other rest (rw cut_too at (bytes_behind front right (rw is_too at are_too))) in
        let one : word ≡ other = same_words word other n m (eight_of left word behind word_is behind_long) (eight_of right other rest other_is rest_long) bytes bytes_too number number_too same in (
          front ++ word,
          is ∙ ap (λ xs. front ++ xs) cut ∙ sym (append_assoc front word behind),
          is_too ∙ ap (λ xs. front ++ xs) cut_too ∙ sym (append_assoc front other rest) ∙ ap (λ xs. (front ++ xs) ++ rest) (sym one),
        )

module _ (whole other_whole last end : List ℕ) (n m : ℕ) (last_is : last ≡ drop (length whole - 8) whole) (end_is : end ≡ drop (length other_whole - 8) other_whole)
    (number : n ≡ from_le_bytes w64 last) (number_too : m ≡ from_le_bytes w64 end) where
  pub last_differ : (n ≡ m → ⊥) → whole ≡ other_whole → ⊥
  last_differ apart same = apart (number ∙ ap (from_le_bytes w64) (last_is ∙ ap (λ xs. drop (length xs - 8) xs) same ∙ sym end_is) ∙ sym number_too)

  pub last_same : length (drop (length whole - 8) whole) ≡ 8 → length (drop (length other_whole - 8) other_whole) ≡ 8 → AreBytes whole → AreBytes other_whole → n ≡ m
      → drop (length whole - 8) whole ≡ drop (length other_whole - 8) other_whole
  last_same eight eight_too are are_too same =
      let bytes : AreBytes last = rw last_is (bytes_behind (take (length whole - 8) whole) (drop (length whole - 8) whole) (rw take-append-drop are)) in
      let bytes_too : AreBytes end = rw end_is (bytes_behind (take (length other_whole - 8) other_whole) (drop (length other_whole - 8) other_whole) (rw take-append-drop are_too)) in
      sym last_is ∙ same_words last end n m (ap length last_is ∙ eight) (ap length end_is ∙ eight_too) bytes bytes_too number number_too same ∙ end_is
