-- Laws between the clauses of a reading and its value.
use Rattle.std.specs.Prelude.{◌≡◌, ◌↔◌, Result, Ok, IsOkAnd}
use Rattle.planus_read.specs.declared.errors.ErrorKind.{ErrorKind}
use Rattle.planus_read.specs.Clauses.{AllHold, FirstBroken, Reading, Answer, shown}

-- All clauses hold exactly where a value is encoded.
abbrev pub Decides : {A : Type 0} → Reading A → Type 0
Decides {A} reading = AllHold reading.clauses ↔ ((x : A) × reading.There x)

abbrev pub IsOne : {A : Type 0} → Reading A → Type 0
IsOne {A} reading = (x y : A) → reading.There x → reading.There y → x ≡ y

-- An error means that no value is encoded.
abbrev pub ErrorsMeanNothing : {A : Type 0} → Reading A → Type 0
ErrorsMeanNothing {A} reading =
    (e : ErrorKind) → FirstBroken reading.clauses e → (x : A) → reading.There x → ⊥

pub record IsAnswered {A : Type 0} (reading : Reading A) (x : A) : Type 0 where
  pub there : reading.There x
  pub alone : (y : A) → reading.There y → y ≡ x
  pub only : (r : Result A ErrorKind) → Answer reading r → r ≡ Ok x

-- the laws of any reading
pub record IsLawful {A : Type 0} (reading : Reading A) : Type 0 where
  pub decides : Decides reading
  pub one : IsOne reading
  pub nothing : ErrorsMeanNothing reading
  pub answered : (x : A) → reading.There x → IsAnswered reading x
  pub same : (r other : Result A ErrorKind) → Answer reading r → Answer reading other → r ≡ other

-- The result shows the encoded value.
abbrev pub IsShown : {A B : Type 0} → Reading A → (A → B → Type 0) → Type 0
IsShown {A} {B} reading Shows =
    (x : A) → reading.There x → (r : Result B ErrorKind) → Answer (shown Shows reading) r
    → IsOkAnd r (Shows x)
