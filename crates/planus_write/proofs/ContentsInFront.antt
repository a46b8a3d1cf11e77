-- Contents at the front of written bytes.
use Rattle.std.proofs.Common.{◌≡◌, ℕ, ◌+◌, ◌<◌, ◌≤◌, ◌^◌, List, [], ◌∷◌, ◌++◌, length, take, drop, Some}
use Rattle.std.proofs.Common.{ap, ◌∙◌, arith, append_assoc, length-append}
use Rattle.std.proofs.lemmas.Bool.Decides.{leb_tells}
use Rattle.std.proofs.lemmas.List.{take-append-le}
use Rattle.std.proofs.Math.Seq.{take-append_seam}
use Rattle.std.proofs.lemmas.Nat.{from_le_bytes-to_le_bytes_4}
use Rattle.std.specs.Int.{w16, w32, to_le_bytes, from_le_bytes}
use Rattle.planus_back.specs.CacheKeys.{first_bytes, bytes_in, vtable_in}

first_in : (contents rest : List ℕ) → first_bytes (length contents) (contents ++ rest) ≡ Some contents
first_in contents rest =
    let within : length contents ≤ length (contents ++ rest) = simp length-append (omega arith) in
    let all = take-append_seam contents rest in
    grind (arith, leb_tells, within, all)

behind_count : (bytes : List ℕ) → 4 ≤ length bytes → bytes_in bytes ≡ first_bytes (from_le_bytes w32 (take 4 bytes)) (drop 4 bytes)
behind_count bytes four = grind (arith, leb_tells, four)

pub counted_in : (contents rest : List ℕ) → length contents < 2 ^ 32 → bytes_in (to_le_bytes w32 (length contents) ++ (contents ++ rest)) ≡ Some contents
counted_in contents rest small =
    behind_count (to_le_bytes w32 (length contents) ++ (contents ++ rest)) (omega arith)
    ∙ ap (λ n. first_bytes n (contents ++ rest)) (from_le_bytes-to_le_bytes_4 (length contents) small) ∙ first_in contents rest

pub vtable_in_front : (bytes rest key : List ℕ) → vtable_in bytes ≡ Some key → vtable_in (bytes ++ rest) ≡ Some key
vtable_in_front bytes rest key h =
    let two : 2 ≤ length bytes = grind (arith, leb_tells, h) in
    let more : length (bytes ++ rest) ≡ length bytes + length rest = length-append bytes rest in
    let pair : take 2 (bytes ++ rest) ≡ take 2 bytes = take-append-le 2 bytes rest two in
    let size : from_le_bytes w16 (take 2 bytes) ≤ length bytes = grind (arith, leb_tells, h) in
    let whole : take (from_le_bytes w16 (take 2 bytes)) (bytes ++ rest) ≡ take (from_le_bytes w16 (take 2 bytes)) bytes = take-append-le (from_le_bytes w16 (take 2 bytes)) bytes rest size in
    grind (arith, leb_tells, two, more, pair, size, whole, h)

pub text_in_front : (text count padding rest bytes : List ℕ) → length text < 2 ^ 32 → count ≡ to_le_bytes w32 (length text)
    → bytes ≡ (((count ++ text) ++ 0 ∷ []) ++ padding) ++ rest → bytes_in bytes ≡ Some text
text_in_front text count padding rest bytes small count_is are =
    let apart : (((count ++ text) ++ 0 ∷ []) ++ padding) ++ rest ≡ count ++ (text ++ ((0 ∷ []) ++ (padding ++ rest))) =
    append_assoc ((count ++ text) ++ 0 ∷ []) padding rest ∙ append_assoc (count ++ text) (0 ∷ []) (padding ++ rest) ∙ append_assoc count text ((0 ∷ []) ++ (padding ++ rest)) in
    ap bytes_in (are ∙ apart ∙ ap (λ c. c ++ (text ++ ((0 ∷ []) ++ (padding ++ rest)))) count_is) ∙ counted_in text ((0 ∷ []) ++ (padding ++ rest)) small

pub list_in_front : (contents count padding rest bytes : List ℕ) → length contents < 2 ^ 32 → count ≡ to_le_bytes w32 (length contents)
    → bytes ≡ ((count ++ contents) ++ padding) ++ rest → bytes_in bytes ≡ Some contents
list_in_front contents count padding rest bytes small count_is are =
    let apart : ((count ++ contents) ++ padding) ++ rest ≡ count ++ (contents ++ (padding ++ rest)) = append_assoc (count ++ contents) padding rest ∙ append_assoc count contents (padding ++ rest) in
    ap bytes_in (are ∙ apart ∙ ap (λ c. c ++ (contents ++ (padding ++ rest))) count_is) ∙ counted_in contents (padding ++ rest) small
