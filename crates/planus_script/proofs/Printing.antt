-- Bytes joined one by one.
use Rattle.std.proofs.Common.{◌≡◌, ℕ, zero, suc, ◌+◌, ◌≤◌, ◌<◌, List, [], ◌∷◌, ◌++◌, length, take, map, get_or, refl, sym, ap, ◌∙◌, arith, append_assoc, append-nil}
use Rattle.std.specs.List.{join_with_byte}
use Rattle.std.proofs.lemmas.List.{map_push, take_more, length-map, length-take-le}
use Rattle.planus_dump.specs.Lines.{hex_of}

join_push : (x : List ℕ) (xs : List (List ℕ)) (y : List ℕ) → join_with_byte 32 (x ∷ (xs ++ y ∷ [])) ≡ join_with_byte 32 (x ∷ xs) ++ (32 ∷ y)
join_push x [] y = refl
join_push x (z ∷ xs) y = ap (λ rest. x ++ (32 ∷ rest)) (join_push z xs y) ∙ sym (append_assoc x (32 ∷ join_with_byte 32 (z ∷ xs)) (32 ∷ y))

join_more : (xs : List (List ℕ)) (y : List ℕ) → 0 < length xs → join_with_byte 32 (xs ++ y ∷ []) ≡ join_with_byte 32 xs ++ (32 ∷ y)
join_more [] y h = absurd (omega arith)
join_more (x ∷ xs) y h = join_push x xs y

at_zero : (bytes before so_far spaced after : List ℕ) → 0 < length bytes → so_far ≡ before ++ [] → spaced ≡ so_far → after ≡ spaced ++ hex_of (get_or bytes 0 0)
    → after ≡ before ++ join_with_byte 32 (map hex_of (take 1 bytes))
at_zero [] before so_far spaced after h e s a = absurd (omega arith)
at_zero (b ∷ bytes) before so_far spaced after h e s a = a ∙ ap (λ xs. xs ++ hex_of b) (s ∙ e ∙ append-nil before)

pub first_byte : (bytes : List ℕ) (i : ℕ) (before so_far spaced after : List ℕ) → i ≤ 0 → i < length bytes → so_far ≡ before ++ join_with_byte 32 (map hex_of (take i bytes))
    → spaced ≡ so_far → after ≡ spaced ++ hex_of (get_or bytes i 0) → after ≡ before ++ join_with_byte 32 (map hex_of (take (i + 1) bytes))
first_byte bytes zero before so_far spaced after none inside e s h = at_zero bytes before so_far spaced after inside e s h
first_byte bytes (suc i) before so_far spaced after none inside e s h = absurd (omega arith)

pub further_byte : (bytes : List ℕ) (i : ℕ) (before so_far spaced after : List ℕ) → 0 < i → i < length bytes → so_far ≡ before ++ join_with_byte 32 (map hex_of (take i bytes))
    → spaced ≡ so_far ++ 32 ∷ [] → after ≡ spaced ++ hex_of (get_or bytes i 0) → after ≡ before ++ join_with_byte 32 (map hex_of (take (i + 1) bytes))
further_byte bytes i before so_far spaced after some inside e s h =
    let hexes : List (List ℕ) = map hex_of (take i bytes) in
    let count : length hexes ≡ i = length-map (take i bytes) hex_of ∙ length-take-le i bytes (omega arith) in
    let next : map hex_of (take (i + 1) bytes) ≡ hexes ++ hex_of (get_or bytes i 0) ∷ [] = ap (map hex_of) (take_more bytes i 0 inside) ∙ map_push hex_of (take i bytes) (get_or bytes i 0) in
    let joined : join_with_byte 32 (map hex_of (take (i + 1) bytes)) ≡ join_with_byte 32 hexes ++ (32 ∷ hex_of (get_or bytes i 0))
    = ap (join_with_byte 32) next ∙ join_more hexes (hex_of (get_or bytes i 0)) (omega arith) in
    h ∙ ap (λ xs. xs ++ hex_of (get_or bytes i 0)) (s ∙ ap (λ xs. xs ++ 32 ∷ []) e)
    ∙ append_assoc (before ++ join_with_byte 32 hexes) (32 ∷ []) (hex_of (get_or bytes i 0))
    ∙ append_assoc before (join_with_byte 32 hexes) (32 ∷ hex_of (get_or bytes i 0))
    ∙ ap (λ xs. before ++ xs) (sym joined)
