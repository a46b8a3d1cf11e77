-- Clauses and tests that say the same.
use Rattle.std.proofs.Common.{◌≢◌, ◌≡◌, ℕ, ◌+◌, ◌<◌, ◌≤◌, ◌%◌, List, [], ◌∷◌, length, refl, sym, ap, subst, arith, Bool, true, false, ◌&&◌, Ok, Err, inl, inr, ℤ}
use Rattle.std.specs.Prelude.{if◌then◌else◌, T, ⊤, nat_le, nat_lt, ◌==◌, ◌≤ℤ◌, int_le, slice_index, codes}
use Rattle.std.specs.Str.{is_utf8}
use Rattle.std.proofs.lemmas.Bool.{leb-true, le-leb, ltb-true, lt-ltb, eqb-true, eq-eqb}
use Rattle.std.specs.Int.Signed.{le_z_yes}
use Rattle.std.proofs.lemmas.Str.{IsUtf8-from_is_utf8, is_utf8-from_IsUtf8}
use Rattle.planus_read.specs.declared.errors.ErrorKind.{ErrorKind}
use Rattle.planus_read.specs.declared.errors.ErrorKind.TheVariants.{InvalidUtf8}
use Rattle.planus_read.specs.declared.errors.ErrorKind.TheVariants.{MissingNullTerminator}
use Rattle.planus_read.specs.Clauses.{Clause, clause, AllHold, FirstBroken}
use Rattle.planus_read.specs.Reading.{ZeroByte}
use Rattle.planus_read.specs.Utf8.{IsUtf8Error, utf8_clause}
use Rattle.planus_dump.specs.Tests.{Test, test, answered, fault_text, is_zero_byte}

pub record Match (c : Clause) (t : Test) : Type 0 where
  pub passes : c.holds → t.passes ≡ true
  pub back : t.passes ≡ true → c.holds
  pub fails : (c.holds → ⊥) → t.passes ≡ false
  pub fault : (e : ErrorKind) → c.errors e → fault_text e ≡ t.fault

abbrev pub Matches : List Clause → List Test → Type 0
Matches [] [] = ⊤
Matches [] (t ∷ ts) = ⊥
Matches (c ∷ cs) [] = ⊥
Matches (c ∷ cs) (t ∷ ts) = Match c t × Matches cs ts

pub all_pass : {A : Type 0} (cs : List Clause) (ts : List Test) (x : A) → Matches cs ts → AllHold cs → answered ts x ≡ Ok x
all_pass [] [] x m h = refl
all_pass [] (t ∷ ts) x m h = absurd m
all_pass (c ∷ cs) [] x m h = absurd m
all_pass (c ∷ cs) (t ∷ ts) x m h = rw (m.0.passes h.0) (all_pass cs ts x m.1 h.1)

pub first_fails : {A : Type 0} (cs : List Clause) (ts : List Test) (x : A) (e : ErrorKind) → Matches cs ts → FirstBroken cs e → answered ts x ≡ Err (fault_text e)
first_fails [] [] x e m h = absurd h
first_fails [] (t ∷ ts) x e m h = absurd m
first_fails (c ∷ cs) [] x e m h = absurd m
first_fails (c ∷ cs) (t ∷ ts) x e m (inl h) = rw (m.0.fails h.0) (ap Err (sym (m.0.fault e h.1)))
first_fails (c ∷ cs) (t ∷ ts) x e m (inr h) = rw (m.0.passes h.0) (first_fails cs ts x e m.1 h.1)

pub passed_all : {A : Type 0} (cs : List Clause) (ts : List Test) (x y : A) → Matches cs ts → answered ts x ≡ Ok y → AllHold cs × (x ≡ y)
passed_all [] [] x y m e = (tt, cc)
passed_all [] (t ∷ ts) x y m e = absurd m
passed_all (c ∷ cs) [] x y m e = absurd m
passed_all (c ∷ cs) (t ∷ ts) x y m e = by_test t.passes refl e (passed_all cs ts x y m.1)
  where
    by_test : (b : Bool) → t.passes ≡ b → (if b then answered ts x else Err t.fault) ≡ Ok y → (answered ts x ≡ Ok y → AllHold cs × (x ≡ y)) → AllHold (c ∷ cs) × (x ≡ y)
    by_test true is e rest = ((m.0.back is, (rest e).0), (rest e).1)
    by_test false is e rest = cc

not_true : (b : Bool) → (b ≡ true → ⊥) → b ≡ false
not_true true h = absurd (h refl)
not_true false h = refl

pub le_false : (a b : ℕ) → b < a → nat_le a b ≡ false
le_false a b h = not_true (nat_le a b) (λ e. absurd (omega (arith, leb-true a b e, h)))

pub lt_false : (a b : ℕ) → b ≤ a → nat_lt a b ≡ false
lt_false a b h = not_true (nat_lt a b) (λ e. absurd (omega (arith, ltb-true a b e, h)))

pub eq_false : (a b : ℕ) → a ≢ b → (a == b) ≡ false
eq_false a b h = not_true (a == b) (λ e. h (eqb-true a b e))

matching : {P : Type 0} (b : Bool) (kind : ErrorKind) → (P → b ≡ true) → (b ≡ true → P) → Match (clause P kind) (test b kind)
matching b kind to back = record {
  passes = to;
  back = back;
  fails = λ broken. not_true b (λ e. broken (back e));
  fault = λ e same. ap fault_text same;
}

pub le_match : (n m : ℕ) (kind : ErrorKind) → Match (clause (n ≤ m) kind) (test (nat_le n m) kind)
le_match n m kind = matching (nat_le n m) kind (le-leb n m) (leb-true n m)

pub eq_match : (n m : ℕ) (kind : ErrorKind) → Match (clause (n ≡ m) kind) (test (n == m) kind)
eq_match n m kind = matching (n == m) kind (eq-eqb n m) (eqb-true n m)

passed : (b : Bool) → T b → b ≡ true
passed true h = refl
passed false h = absurd h

pub le_ℤ_match : (a b : ℤ) (kind : ErrorKind) → Match (clause (a ≤ℤ b) kind) (test (int_le a b) kind)
le_ℤ_match a b kind = matching (int_le a b) kind (λ h. passed (int_le a b) h.le) (λ e. le_z_yes (subst T (sym e) tt))

and_true : (a b : Bool) → a ≡ true → b ≡ true → (a && b) ≡ true
and_true true true e f = refl
and_true true false e f = cc
and_true false b e f = cc

both_true : (a b : Bool) → (a && b) ≡ true → (a ≡ true) × (b ≡ true)
both_true true true e = (refl, refl)
both_true true false e = cc
both_true false b e = cc

pub size_match : (n : ℕ) (kind : ErrorKind) → Match (clause ((4 ≤ n) × (n % 2 ≡ 0)) kind) (test (nat_le 4 n && n % 2 == 0) kind)
size_match n kind = matching (nat_le 4 n && n % 2 == 0) kind (λ h. and_true (nat_le 4 n) (n % 2 == 0) (le-leb 4 n h.0) (eq-eqb (n % 2) 0 h.1))
    (λ e. let both : (nat_le 4 n ≡ true) × ((n % 2 == 0) ≡ true) = both_true (nat_le 4 n) (n % 2 == 0) e in (leb-true 4 n both.0, eqb-true (n % 2) 0 both.1))

pub zero_match : (S : List ℕ) (first count : ℕ) → Match (clause (ZeroByte S first count) MissingNullTerminator) (test (is_zero_byte S (first + count)) MissingNullTerminator)
zero_match S first count = let p = first + count in matching (is_zero_byte S p) MissingNullTerminator
    (λ h. and_true (nat_lt p (length S)) (slice_index S p == 0) (lt-ltb p (length S) h.0) (eq-eqb (slice_index S p) 0 h.1))
    (λ e. let both : (nat_lt p (length S) ≡ true) × ((slice_index S p == 0) ≡ true) = both_true (nat_lt p (length S)) (slice_index S p == 0) e in (ltb-true p (length S) both.0, eqb-true (slice_index S p) 0 both.1))

utf8_fault : (bytes : List ℕ) (e : ErrorKind) → IsUtf8Error bytes e → fault_text e ≡ codes "Invalid utf-8"
utf8_fault bytes (InvalidUtf8 source) h = refl
utf8_fault bytes _ h = absurd h

pub utf8_match : (bytes : List ℕ) → Match (utf8_clause bytes) (record { passes = is_utf8 bytes; fault = codes "Invalid utf-8" })
utf8_match bytes = record {
  passes = is_utf8-from_IsUtf8 bytes;
  back = IsUtf8-from_is_utf8 bytes;
  fails = λ broken. not_true (is_utf8 bytes) (λ e. broken (IsUtf8-from_is_utf8 bytes e));
  fault = utf8_fault bytes;
}
