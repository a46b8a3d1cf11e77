-- Numbers, bools, floats, enums and structs.
use Prim.Native.Nat.{zero, suc}
use Rattle.std.specs.Prelude.{◌≡◌, ℕ, ◌+◌, ◌*◌, ◌<◌, ◌≤◌, ◌^◌, List, ◌∷◌, length}
use Rattle.std.specs.Int.{Width, byte_len, ◌∣◌}
use Rattle.planus_read.specs.declared.errors.ErrorKind.TheVariants.{InvalidOffset}
use Rattle.planus_read.specs.Bytes.{BytesStand}
use Rattle.planus_read.specs.Clauses.{Clause, clause, AllHold, Reading}

-- the alignment is a power of two up to 2^30, the size a positive multiple of it
pub record IsLayout (size alignment : ℕ) : Type 0 where
  pub power : (k : ℕ) × (k ≤ 30) × (alignment ≡ 2 ^ k)
  pub positive : 0 < size
  pub multiple : alignment ∣ size

-- Each value has `size` bytes; where these are, no clause fails and no other value is encoded. Where
-- a value is encoded by any bytes, no clause fails.
pub record Shape (A : Type 0) (size alignment : ℕ) : Type 1 where
  pub encoded : A → List ℕ
  pub fits : A → Type 0
  pub There : List ℕ → ℕ → A → Type 0
  pub clauses : List ℕ → ℕ → List Clause
  pub layout : IsLayout size alignment
  pub sized : (x : A) → length (encoded x) ≡ size
  pub holds :
      (S : List ℕ) (f : ℕ) (x : A) → fits x → BytesStand S f (encoded x) → AllHold (clauses S f)
  pub again :
      (S : List ℕ) (f : ℕ) (x y : A) → fits x → BytesStand S f (encoded x) → There S f y → y ≡ x
  pub unbroken : (S : List ℕ) (f : ℕ) (x : A) → There S f x → AllHold (clauses S f)

-- all bytes are in S, and the own clauses hold
abbrev pub plain_reading :
    {A : Type 0} {size alignment : ℕ} → Shape A size alignment → List ℕ → ℕ → Reading A
plain_reading {A} {size} {alignment} shape S f =
    record {
      There = shape.There S f;
      clauses = clause (f + size ≤ length S) InvalidOffset ∷ shape.clauses S f;
    }

-- the own clauses alone
abbrev pub own_reading :
    {A : Type 0} {size alignment : ℕ} → Shape A size alignment → List ℕ → ℕ → Reading A
own_reading shape S f = record { There = shape.There S f; clauses = shape.clauses S f }

abbrev pub NumberFits : Width → ℕ → Type 0
NumberFits width n = n < 2 ^ (8 * byte_len width)

abbrev pub place : ℕ → ℕ → ℕ
place f zero = f
place f (suc n) = f + suc n
