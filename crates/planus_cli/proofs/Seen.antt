-- What is shown is seen.
use Rattle.std.specs.Prelude.{zero, suc, not, nat_lt, ◌&&◌, ◌||◌, ◌==◌, if◌then◌else◌}
use Rattle.std.proofs.Common.{◌≡◌, ◌<◌, ◌≤◌, ◌+◌, ◌-◌, ◌/◌, ◌%◌, ℕ, Bool, true, false, List, [], ◌∷◌, ◌++◌, length, take, drop, get_or, length-drop, refl, sym, ap, ◌∙◌, subst, arith}
use Rattle.std.specs.Char.{digit_char}
use Rattle.std.specs.List.{All, list_any}
use Rattle.std.specs.Str.{chars, is_utf8, IsAscii}
use Rattle.std.proofs.lemmas.Str.{IsUtf8-from_is_utf8, IsUtf8-append, chars-append, IsUtf8-from_ascii, chars-IsAscii, chars-nil}
use Rattle.std.proofs.lemmas.List.Folds.{list_any-append}
use Rattle.std.proofs.lemmas.List.{get_or-drop}
use Rattle.std.proofs.lemmas.Bool.Decides.{nat_tests}
use Rattle.planus_cli.specs.Shown.{is_hidden, is_seen, width, seen_length, kept_of, sign, shown_from, IsSeenText}
use Rattle.planus_dump.specs.Lines.{hex_of}

digit_seen : (d : ℕ) → d < 16 → (digit_char d < 128) × (is_hidden (digit_char d) ≡ false)
digit_seen zero h = (omega arith, refl)
digit_seen (suc zero) h = (omega arith, refl)
digit_seen (suc (suc zero)) h = (omega arith, refl)
digit_seen (suc (suc (suc zero))) h = (omega arith, refl)
digit_seen (suc (suc (suc (suc zero)))) h = (omega arith, refl)
digit_seen (suc (suc (suc (suc (suc zero))))) h = (omega arith, refl)
digit_seen (suc (suc (suc (suc (suc (suc zero)))))) h = (omega arith, refl)
digit_seen (suc (suc (suc (suc (suc (suc (suc zero))))))) h = (omega arith, refl)
digit_seen (suc (suc (suc (suc (suc (suc (suc (suc zero)))))))) h = (omega arith, refl)
digit_seen (suc (suc (suc (suc (suc (suc (suc (suc (suc zero))))))))) h = (omega arith, refl)
digit_seen (suc (suc (suc (suc (suc (suc (suc (suc (suc (suc zero)))))))))) h = (omega arith, refl)
digit_seen (suc (suc (suc (suc (suc (suc (suc (suc (suc (suc (suc zero))))))))))) h = (omega arith, refl)
digit_seen (suc (suc (suc (suc (suc (suc (suc (suc (suc (suc (suc (suc zero)))))))))))) h = (omega arith, refl)
digit_seen (suc (suc (suc (suc (suc (suc (suc (suc (suc (suc (suc (suc (suc zero))))))))))))) h = (omega arith, refl)
digit_seen (suc (suc (suc (suc (suc (suc (suc (suc (suc (suc (suc (suc (suc (suc zero)))))))))))))) h = (omega arith, refl)
digit_seen (suc (suc (suc (suc (suc (suc (suc (suc (suc (suc (suc (suc (suc (suc (suc zero))))))))))))))) h = (omega arith, refl)
digit_seen (suc (suc (suc (suc (suc (suc (suc (suc (suc (suc (suc (suc (suc (suc (suc (suc n)))))))))))))))) h = absurd (omega arith)

or_false : (a b : Bool) → a ≡ false → b ≡ false → (a || b) ≡ false
or_false a b p q = ap (λ v. v || b) p ∙ q

seen_append : (xs ys : List ℕ) → IsSeenText xs → IsSeenText ys → IsSeenText (xs ++ ys)
seen_append xs ys a b = record {
  utf8 = IsUtf8-append xs ys a.utf8 b.utf8;
  seen = ap (list_any is_hidden) (chars-append xs ys a.utf8) ∙ list_any-append is_hidden (chars xs) (chars ys)
      ∙ or_false (list_any is_hidden (chars xs)) (list_any is_hidden (chars ys)) a.seen b.seen;
}

ascii_four : (a b c d : ℕ) → a < 128 → b < 128 → c < 128 → d < 128 → IsAscii (a ∷ b ∷ c ∷ d ∷ [])
ascii_four a b c d p q r s zero = p
ascii_four a b c d p q r s (suc zero) = q
ascii_four a b c d p q r s (suc (suc zero)) = r
ascii_four a b c d p q r s (suc (suc (suc zero))) = s
ascii_four a b c d p q r s (suc (suc (suc (suc n)))) = omega arith

seen_hex : (b : ℕ) → b < 256 → IsSeenText (92 ∷ 120 ∷ hex_of b)
seen_hex b h =
    let high = digit_seen (b / 16) (omega arith) in
    let low = digit_seen (b % 16) (omega arith) in
    let ascii = ascii_four 92 120 (digit_char (b / 16)) (digit_char (b % 16)) (omega arith) (omega arith) high.0 low.0 in
    record {
      utf8 = IsUtf8-from_ascii (92 ∷ 120 ∷ hex_of b) ascii;
      seen = ap (list_any is_hidden) (chars-IsAscii (92 ∷ 120 ∷ hex_of b) ascii)
          ∙ or_false (is_hidden (digit_char (b / 16))) (is_hidden (digit_char (b % 16)) || false) high.1
          (or_false (is_hidden (digit_char (b % 16))) false low.1 refl);
    }

nonzero : (n : ℕ) → (suc n == 0) ≡ false
nonzero n = grind (arith, nat_tests)

-- a byte that is kept
kept_one : (n b : ℕ) (bs : List ℕ) → sign (suc n) b ++ shown_from (suc n - 1) bs ≡ b ∷ shown_from n bs
kept_one n b bs =
    let less : suc n - 1 ≡ n = omega arith in
    ap (λ v. (if v then 92 ∷ 120 ∷ hex_of b else b ∷ []) ++ shown_from (suc n - 1) bs) (nonzero n)
    ∙ ap (λ k. b ∷ shown_from k bs) less

shown_kept : (n : ℕ) (bs : List ℕ) → shown_from n bs ≡ take n bs ++ shown_from 0 (drop n bs)
shown_kept zero bs = refl
shown_kept (suc n) [] = refl
shown_kept (suc n) (b ∷ bs) =
    let kept : kept_of (suc n) (b ∷ bs) ≡ suc n = ap (λ v. if v then seen_length (b ∷ bs) else suc n) (nonzero n) in
    ap (λ k. sign k b ++ shown_from (k - 1) bs) kept ∙ kept_one n b bs ∙ ap (λ xs. b ∷ xs) (shown_kept n bs)

width_some : (b : ℕ) → 0 < width b
width_some b = either (nat_lt b 128) (nat_lt b 224) (nat_lt b 240)
  where
    either : (p q r : Bool) → 0 < (if p then 1 else (if q then 2 else (if r then 3 else 4)))
    either true q r = omega arith
    either false true r = omega arith
    either false false true = omega arith
    either false false false = omega arith

both : (a b : Bool) → (a && b) ≡ true → (a ≡ true) × (b ≡ true)
both true b p = (refl, p)
both false b p = absurd (no p)
  where
    no : false ≡ true → ⊥
    no e = let one : ℕ = 1 in let nought : ℕ = 0 in let same : nought ≡ one = ap (λ v. if v then one else nought) e in omega (arith, same)

not_true : (a : Bool) → not a ≡ true → a ≡ false
not_true true p = sym p
not_true false p = refl

front_seen : (front : List ℕ) → is_seen front ≡ true → IsSeenText front
front_seen front h =
    let parts = both (is_utf8 front) (not (list_any is_hidden (chars front))) h in
    record { utf8 = IsUtf8-from_is_utf8 front parts.0; seen = not_true (list_any is_hidden (chars front)) parts.1 }

kept_front : (n b : ℕ) (bs : List ℕ) → 0 < n → sign n b ++ shown_from (n - 1) bs ≡ take n (b ∷ bs) ++ shown_from 0 (drop n (b ∷ bs))
kept_front zero b bs h = absurd (omega arith)
kept_front (suc n) b bs h = kept_one n b bs ∙ ap (λ xs. b ∷ xs) (shown_kept n bs)

nil_seen : IsSeenText []
nil_seen = record { utf8 = ([], (refl, refl)); seen = ap (list_any is_hidden) chars-nil }

first_seen : (b : ℕ) (bs rest : List ℕ) → IsSeenText (take (width b) (b ∷ bs)) → IsSeenText rest
    → shown_from 0 (drop (width b) (b ∷ bs)) ≡ rest → seen_length (b ∷ bs) ≡ width b → IsSeenText (shown_from 0 (b ∷ bs))
first_seen b bs rest front after follows kept =
    let is : shown_from 0 (b ∷ bs) ≡ take (width b) (b ∷ bs) ++ rest =
    ap (λ k. sign k b ++ shown_from (k - 1) bs) kept ∙ kept_front (width b) b bs (width_some b)
    ∙ ap (λ xs. take (width b) (b ∷ bs) ++ xs) follows in
    subst IsSeenText (sym is) (seen_append (take (width b) (b ∷ bs)) rest front after)

escaped_seen : (b : ℕ) (bs : List ℕ) → b < 256 → IsSeenText (shown_from 0 bs) → seen_length (b ∷ bs) ≡ 0
    → IsSeenText (shown_from 0 (b ∷ bs))
escaped_seen b bs h after kept =
    let is : shown_from 0 (b ∷ bs) ≡ (92 ∷ 120 ∷ hex_of b) ++ shown_from 0 bs = ap (λ k. sign k b ++ shown_from (k - 1) bs) kept in
    subst IsSeenText (sym is) (seen_append (92 ∷ 120 ∷ hex_of b) (shown_from 0 bs) (seen_hex b h) after)

either_seen : (b : ℕ) (bs : List ℕ) (v : Bool) → is_seen (take (width b) (b ∷ bs)) ≡ v → b < 256
    → IsSeenText (shown_from 0 (drop (width b) (b ∷ bs))) → IsSeenText (shown_from 0 bs) → IsSeenText (shown_from 0 (b ∷ bs))
either_seen b bs true e h after next =
    first_seen b bs (shown_from 0 (drop (width b) (b ∷ bs))) (front_seen (take (width b) (b ∷ bs)) e) after refl
    (ap (λ v. if v then width b else 0) e)
either_seen b bs false e h after next = escaped_seen b bs h next (ap (λ v. if v then width b else 0) e)

pub seen_all : (fuel : ℕ) (bs : List ℕ) → length bs ≤ fuel → ((i : ℕ) → get_or bs i 0 < 256) → IsSeenText (shown_from 0 bs)
seen_all fuel [] l h = nil_seen
seen_all zero (b ∷ bs) l h = absurd (omega arith)
seen_all (suc fuel) (b ∷ bs) l h =
    either_seen b bs (is_seen (take (width b) (b ∷ bs))) refl (h zero)
    (seen_all fuel (drop (width b) (b ∷ bs)) (omega (arith, length-drop (width b) (b ∷ bs), width_some b))
    (λ i. subst (λ x. x < 256) (sym (get_or-drop (width b) (b ∷ bs) i 0)) (h (width b + i))))
    (seen_all fuel bs (omega arith) (λ i. h (suc i)))

pub bounded : (bs : List ℕ) → All (λ b. b < 256) bs → (i : ℕ) → get_or bs i 0 < 256
bounded [] h i = omega arith
bounded (b ∷ bs) h zero = h zero 0 (omega arith)
bounded (b ∷ bs) h (suc i) = bounded bs (λ k d within. h (suc k) d (omega arith)) i
