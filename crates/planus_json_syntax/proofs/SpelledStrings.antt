-- However a string is spelled, it is read.
use Rattle.std.proofs.Common.{◌≡◌, ℕ, zero, suc, ◌<◌, List, [], ◌∷◌, ◌++◌, length, true, false, Bool, refl, sym, ap, ◌∙◌, append_assoc, append-nil, arith, Ok, Option, Some, None}
use Rattle.std.specs.Prelude.{◌==◌, ◌&&◌, ◌||◌, not, nat_lt, nat_le}
use Rattle.std.specs.List.{list_all}
use Rattle.std.specs.Str.{is_utf8}
use Rattle.planus_json_syntax.specs.Strings.{Content, escaped, string_step, string_from, escape_at, string_at, four_at, code_of, low_at, low_of, is_high, is_low, short_value, short_of, both_halves}
use Rattle.planus_json_syntax.specs.Spelling.{Four, four_bytes, is_four, number, Part, plain, short, code, pair, is_some, is_part, part_bytes, encoded, part_says, written, said}

pub both : (a b : Bool) → (a && b) ≡ true → (a ≡ true) × (b ≡ true)
both true b h = (refl, h)
both false b h = absurd cc

pub untrue : (a : Bool) → not a ≡ true → a ≡ false
untrue true h = absurd cc
untrue false h = refl

neither : (a b : Bool) → not (a || b) ≡ true → (a ≡ false) × (b ≡ false)
neither true b h = absurd cc
neither false b h = (refl, untrue b h)

four_back : (n : Four) (rest : List ℕ) → is_four n ≡ true → four_at (four_bytes n ++ rest) ≡ Some (number n, rest)
four_back n rest h = rw h refl

-- a high half is no low one
low_is : (n : ℕ) → is_high n ≡ true → is_low n ≡ false
low_is n h = grind (arith, both)

-- no letter is a `u`
not_u : (b : ℕ) → is_some (short_value b) ≡ true → (b == 117) ≡ false
not_u b h = grind arith

not_less : (b : ℕ) → nat_le 32 b ≡ true → nat_lt b 32 ≡ false
not_less b h = grind arith

short_read : (v : Option ℕ) (rest : List ℕ) (more : List ℕ → List ℕ → Content) (before : List ℕ) (left : ℕ) → is_some v ≡ true
    → escaped more before left (short_of v rest) ≡ more (before ++ encoded v) rest
short_read None rest more before left h = absurd cc
short_read (Some c) rest more before left h = refl

after_two : (more : List ℕ → List ℕ → Content) (before bytes : List ℕ) (b : ℕ) → string_step more before (92 ∷ b ∷ bytes) ≡ escaped more before (suc (suc (length bytes))) (escape_at b bytes)
after_two more before bytes b = refl

-- a part is read
part_read : (p : Part) (rest before : List ℕ) (more : List ℕ → List ℕ → Content) → is_part p ≡ true
    → string_step more before (part_bytes p ++ rest) ≡ more (before ++ part_says p) rest
part_read (plain b) rest before more h =
    let k = both (not (b == 34)) (not (b == 92) && nat_le 32 b) h in
    let l = both (not (b == 92)) (nat_le 32 b) k.1 in
    rw (untrue (b == 34) k.0, untrue (b == 92) l.0, not_less b l.1) refl
part_read (short b) rest before more h =
    rw (not_u b h) (short_read (short_value b) rest more before (suc (suc (length rest))) h)
part_read (code n) rest before more h =
    let a = both (is_four n) (not (is_high (number n) || is_low (number n))) h in
    let m = neither (is_high (number n)) (is_low (number n)) a.1 in
    let read : escape_at 117 (four_bytes n ++ rest) ≡ Ok (number n, rest) =
    ap code_of (four_back n rest a.0) ∙ rw (m.1, m.0) refl in
    ap (escaped more before (suc (suc (length (four_bytes n ++ rest))))) read
part_read (pair n m) rest before more h =
    let a = both (is_four n) (is_four m && (is_high (number n) && is_low (number m))) h in
    let b = both (is_four m) (is_high (number n) && is_low (number m)) a.1 in
    let d = both (is_high (number n)) (is_low (number m)) b.1 in
    let tail = 92 ∷ 117 ∷ (four_bytes m ++ rest) in
    let low : low_at (number n) tail ≡ Ok (both_halves (number n) (number m), rest) =
    ap (low_of (number n)) (four_back m rest b.0) ∙ rw d.1 refl in
    let read : escape_at 117 (four_bytes n ++ tail) ≡ Ok (both_halves (number n) (number m), rest) =
    ap code_of (four_back n tail a.0) ∙ rw (low_is (number n) d.0, d.0) low in
    ap (λ bytes. string_step more before (92 ∷ 117 ∷ bytes)) (append_assoc (four_bytes n) (92 ∷ 117 ∷ four_bytes m) rest)
    ∙ ap (escaped more before (suc (suc (length (four_bytes n ++ tail))))) read

some_bytes : (p : Part) (rest : List ℕ) → length rest < length (part_bytes p ++ rest)
some_bytes (plain b) rest = omega arith
some_bytes (short b) rest = omega arith
some_bytes (code n) rest = omega arith
some_bytes (pair n m) rest = omega arith

string_read : (n : ℕ) (parts : List Part) (rest before : List ℕ) → list_all is_part parts ≡ true → is_utf8 (before ++ said parts) ≡ true
    → length (written parts ++ 34 ∷ rest) < n → string_from n before (written parts ++ 34 ∷ rest) ≡ Ok (before ++ said parts, rest)
unfolding string_from
string_read zero parts rest before h u k = absurd (omega (arith, k))
string_read (suc n) [] rest before h u k =
    let e : before ++ [] ≡ before = append-nil before in
    rw (rw e at u) (ap (λ s. Ok (s, rest)) (sym e))
string_read (suc n) (p ∷ parts) rest before h u k =
    let a = both (is_part p) (list_all is_part parts) h in
    let tail = written parts ++ 34 ∷ rest in
    let e : written (p ∷ parts) ++ 34 ∷ rest ≡ part_bytes p ++ tail = append_assoc (part_bytes p) (written parts) (34 ∷ rest) in
    let s : before ++ said (p ∷ parts) ≡ (before ++ part_says p) ++ said parts = sym (append_assoc before (part_says p) (said parts)) in
    ap (string_step (string_from n) before) e ∙ part_read p tail before (string_from n) a.0
    ∙ string_read n parts rest (before ++ part_says p) a.1 (rw s at u) (omega (arith, k, ap length e, some_bytes p tail))
    ∙ ap (λ t. Ok (t, rest)) (sym s)

pub string_is_read : (parts : List Part) (rest : List ℕ) → list_all is_part parts ≡ true → is_utf8 (said parts) ≡ true
    → string_at (written parts ++ 34 ∷ rest) ≡ Ok (said parts, rest)
string_is_read parts rest h u = string_read (suc (length (written parts ++ 34 ∷ rest))) parts rest [] h u (omega arith)
