-- Numbers of a type and their bits.
use Rattle.std.proofs.Common.{◌≡◌, ℕ, ◌+◌, ◌-◌, ◌*◌, ◌%◌, ◌<◌, ◌≤◌, Bool, true, false, length, refl, sym, ap, subst, ◌∙◌, arith, Ok, mod-eq_of_lt, lit<, lit≤}
use Rattle.std.specs.Prelude.{◌==◌, ◌&&◌, not, nat_le, if◌then◌else◌, Err}
use Rattle.planus_read.specs.declared.errors.ErrorKind.TheVariants.{InvalidOffset}
use Rattle.std.specs.Int.{Width, byte_len, to_le_bytes}
use Rattle.std.proofs.Math.Seq.{take-length}
use Rattle.std.proofs.lemmas.Bool.Decides.{nat_tests}
use Rattle.std.proofs.lemmas.Nat.{mod-mul-add}
use Rattle.planus_read.specs.Plain.{NumberFits}
use Rattle.planus_read.specs.Reading.{number}
use Rattle.planus_read.specs.lemmas.NumberLaws.{AreBytes, one_byte, two_bytes, four_bytes, eight_bytes, bytes_number}
use Rattle.planus_dump.specs.Answers.{bits_at}
use Rattle.planus_dump.specs.Tests.{fault_text}
use Rattle.planus_inspect.specs.Shown.{low_bytes, bits_of}
use Rattle.planus_schema.specs.declared.number.Number.{Number}
use Rattle.planus_schema.specs.declared.scalar.Scalar.{Scalar}
use Rattle.planus_schema.specs.declared.scalar.Scalar.TheVariants as scalar
use Rattle.planus_schema.specs.Numbers.{scalar_size, greatest, least, fits}
use Rattle.planus_conform.specs.Values.{width_of}
use Rattle.planus_conform.specs.EnumWitnesses.{bytes_of}

-- a number of the type, other than minus zero
abbrev pub is_number_of : Scalar → Number → Bool
is_number_of s n = fits s n && not (n.negative && n.magnitude == 0)

abbrev made : Bool → ℕ → Number
made b n = record { negative = b; magnitude = n }

-- one more than the greatest bits
abbrev modulus : Scalar → ℕ
modulus s = by_size (scalar_size s)
  where
    by_size : ℕ → ℕ
    by_size n = if n == 1 then 256 else if n == 2 then 65536 else if n == 4 then 4294967296 else 18446744073709551616

abbrev bits_in : ℕ → Bool → ℕ → ℕ
bits_in w true m = w - m
bits_in w false m = m

wraps : (k w m : ℕ) → k * w + w ≡ 18446744073709551616 → 0 < m → m ≤ w → (18446744073709551615 - (m - 1)) % w ≡ w - m
wraps k w m whole some small =
    let is : 18446744073709551615 - (m - 1) ≡ k * w + (w - m) = omega (arith, whole, some, small) in
    ap (λ n. n % w) is ∙ mod-mul-add k w (w - m) (omega (arith, some, small))

not_zero : (b : Bool) (m : ℕ) → (b && not (m == 0)) ≡ true → not (m == 0) ≡ true
not_zero true m e = e
not_zero false m e = absurd cc

some_of : (m : ℕ) → not (m == 0) ≡ true → 0 < m
some_of m e = grind (arith, nat_tests)

most : (m n : ℕ) (b : Bool) → (nat_le m n && b) ≡ true → m ≤ n
most m n b e = grind (arith, nat_tests)

never : (m : ℕ) → (nat_le m 0 && not (m == 0)) ≡ true → ⊥
never m e = grind (arith, nat_tests)

negative_bits : (size m : ℕ) → not (m == 0) ≡ true → bits_of size (made true m) ≡ low_bytes size (18446744073709551615 - (m - 1))
negative_bits size m e = ap (λ t. low_bytes size (if t then 18446744073709551615 - (m - 1) else m)) e

wrapped : (size k w l m : ℕ) → ((n : ℕ) → low_bytes size n ≡ n % w) → k * w + w ≡ 18446744073709551616 → l ≤ w
    → (nat_le m l && not (m == 0)) ≡ true → bits_of size (made true m) ≡ w - m
wrapped size k w l m low whole small e =
    let some = not_zero (nat_le m l) m e in
    let within = most m l (not (m == 0)) e in
    negative_bits size m some ∙ low (18446744073709551615 - (m - 1)) ∙ wraps k w m whole (some_of m some) (omega (arith, small, within))

kept : (size w g m : ℕ) → ((n : ℕ) → low_bytes size n ≡ n % w) → g < w → (nat_le m g && true) ≡ true → bits_of size (made false m) ≡ m
kept size w g m low small e =
    let within = most m g true e in low m ∙ mod-eq_of_lt (omega (arith, small, within))

long_bits : (m : ℕ) → (nat_le m 9223372036854775808 && not (m == 0)) ≡ true → bits_of 8 (made true m) ≡ 18446744073709551616 - m
long_bits m e =
    let some = not_zero (nat_le m 9223372036854775808) m e in
    let more = some_of m some in
    let within = most m 9223372036854775808 (not (m == 0)) e in
    negative_bits 8 m some ∙ (let is : 18446744073709551615 - (m - 1) ≡ 18446744073709551616 - m = omega (arith, more, within) in is)

bits_are : (s : Scalar) (b : Bool) (m : ℕ) → is_number_of s (made b m) ≡ true → bits_of (scalar_size s) (made b m) ≡ bits_in (modulus s) b m
bits_are scalar.Byte true m e = wrapped 1 72057594037927935 256 128 m (λ n. refl) refl (lit≤ tt) e
bits_are scalar.Short true m e = wrapped 2 281474976710655 65536 32768 m (λ n. refl) refl (lit≤ tt) e
bits_are scalar.Int true m e = wrapped 4 4294967295 4294967296 2147483648 m (λ n. refl) refl (lit≤ tt) e
bits_are scalar.Long true m e = long_bits m e
bits_are scalar.Bool true m e = absurd (never m e)
bits_are scalar.UByte true m e = absurd (never m e)
bits_are scalar.UShort true m e = absurd (never m e)
bits_are scalar.UInt true m e = absurd (never m e)
bits_are scalar.ULong true m e = absurd (never m e)
bits_are scalar.Float true m e = absurd (never m e)
bits_are scalar.Double true m e = absurd (never m e)
bits_are scalar.Bool false m e = kept 1 256 1 m (λ n. refl) (lit< tt) e
bits_are scalar.Byte false m e = kept 1 256 127 m (λ n. refl) (lit< tt) e
bits_are scalar.UByte false m e = kept 1 256 255 m (λ n. refl) (lit< tt) e
bits_are scalar.Short false m e = kept 2 65536 32767 m (λ n. refl) (lit< tt) e
bits_are scalar.UShort false m e = kept 2 65536 65535 m (λ n. refl) (lit< tt) e
bits_are scalar.Int false m e = kept 4 4294967296 2147483647 m (λ n. refl) (lit< tt) e
bits_are scalar.UInt false m e = kept 4 4294967296 4294967295 m (λ n. refl) (lit< tt) e
bits_are scalar.Float false m e = kept 4 4294967296 0 m (λ n. refl) (lit< tt) e
bits_are scalar.Long false m e = refl
bits_are scalar.ULong false m e = refl
bits_are scalar.Double false m e = refl

bounded : (s : Scalar) → greatest s + least s < modulus s
bounded scalar.Bool = lit< tt
bounded scalar.Byte = lit< tt
bounded scalar.UByte = lit< tt
bounded scalar.Short = lit< tt
bounded scalar.UShort = lit< tt
bounded scalar.Int = lit< tt
bounded scalar.UInt = lit< tt
bounded scalar.Long = lit< tt
bounded scalar.ULong = lit< tt
bounded scalar.Float = lit< tt
bounded scalar.Double = lit< tt

abbrev Within : ℕ → ℕ → Bool → ℕ → Type 0
Within g l true m = (m ≤ l) × (0 < m)
Within g l false m = m ≤ g

within : (s : Scalar) (b : Bool) (m : ℕ) → is_number_of s (made b m) ≡ true → Within (greatest s) (least s) b m
within s true m e = (most m (least s) (not (m == 0)) e, some_of m (not_zero (nat_le m (least s)) m e))
within s false m e = most m (greatest s) true e

one_sign : (w g l : ℕ) → g + l < w → (b c : Bool) (m k : ℕ) → Within g l b m → Within g l c k → bits_in w b m ≡ bits_in w c k → (b ≡ c) × (m ≡ k)
one_sign w g l h true true m k x y e = (refl, omega (arith, h, x.0, y.0, e))
one_sign w g l h false false m k x y e = (refl, e)
one_sign w g l h true false m k x y e = absurd (omega (arith, h, x.0, y, e))
one_sign w g l h false true m k x y e = absurd (omega (arith, h, x, y.0, e))

-- numbers of a type have bits of their own
pub own_bits : (s : Scalar) (a b : Number) → is_number_of s a ≡ true → is_number_of s b ≡ true → bits_of (scalar_size s) a ≡ bits_of (scalar_size s) b → a ≡ b
own_bits s a b x y e =
    let parts =
    one_sign (modulus s) (greatest s) (least s) (bounded s) a.negative b.negative a.magnitude b.magnitude
    (within s a.negative a.magnitude x) (within s b.negative b.magnitude y)
    (sym (bits_are s a.negative a.magnitude x) ∙ e ∙ bits_are s b.negative b.magnitude y) in
    ap (λ t. made t a.magnitude) parts.0 ∙ ap (λ n. made b.negative n) parts.1

below : (w g l : ℕ) → g + l < w → (b : Bool) (m : ℕ) → Within g l b m → bits_in w b m < w
below w g l h true m x = omega (arith, h, x.0, x.1)
below w g l h false m x = omega (arith, h, x)

-- ---- the bytes of a number

has_bytes : (s : Scalar) → AreBytes (width_of s)
has_bytes scalar.Bool = one_byte
has_bytes scalar.Byte = one_byte
has_bytes scalar.UByte = one_byte
has_bytes scalar.Short = two_bytes
has_bytes scalar.UShort = two_bytes
has_bytes scalar.Int = four_bytes
has_bytes scalar.UInt = four_bytes
has_bytes scalar.Long = eight_bytes
has_bytes scalar.ULong = eight_bytes
has_bytes scalar.Float = four_bytes
has_bytes scalar.Double = eight_bytes

fit_bytes : (s : Scalar) (n : ℕ) → n < modulus s → NumberFits (width_of s) n
fit_bytes scalar.Bool n h = h
fit_bytes scalar.Byte n h = h
fit_bytes scalar.UByte n h = h
fit_bytes scalar.Short n h = h
fit_bytes scalar.UShort n h = h
fit_bytes scalar.Int n h = h
fit_bytes scalar.UInt n h = h
fit_bytes scalar.Long n h = h
fit_bytes scalar.ULong n h = h
fit_bytes scalar.Float n h = h
fit_bytes scalar.Double n h = h

all_there : (k n : ℕ) → k ≡ n → nat_le (0 + n) k ≡ true
all_there k n e = grind (arith, nat_tests)

read_again : (width : Width) → AreBytes width → (n : ℕ) → NumberFits width n → bits_at width (to_le_bytes width n) 0 ≡ Ok n
read_again width are n fit =
    ap (λ b. if b then Ok (number (to_le_bytes width n) 0 width) else Err (fault_text InvalidOffset)) (all_there (length (to_le_bytes width n)) (byte_len width) (are.sized n))
    ∙ ap Ok (bytes_number width are (to_le_bytes width n) 0 n fit (take-length (to_le_bytes width n)))

-- the bytes of a number are read as its bits
pub bits_read : (s : Scalar) (n : Number) → is_number_of s n ≡ true → bits_at (width_of s) (bytes_of s n) 0 ≡ Ok (bits_of (scalar_size s) n)
bits_read s n x =
    read_again (width_of s) (has_bytes s) (bits_of (scalar_size s) n)
    (fit_bytes s (bits_of (scalar_size s) n)
    (subst (λ k. k < modulus s) (sym (bits_are s n.negative n.magnitude x))
    (below (modulus s) (greatest s) (least s) (bounded s) n.negative n.magnitude (within s n.negative n.magnitude x))))
