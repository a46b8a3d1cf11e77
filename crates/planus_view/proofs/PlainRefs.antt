-- A value whose bytes stand is read without failing.
use Rattle.std.proofs.Common.{◌≡◌, ℕ, List, ap, Result, Ok, Err}
use Rattle.planus_read.specs.declared.errors.ErrorKind.{ErrorKind}
use Rattle.planus_read.specs.Bytes.{BytesStand}
use Rattle.planus_read.specs.Clauses.{Answer}
use Rattle.planus_read.specs.Plain.{Shape, own_reading}
use Rattle.planus_read.proofs.ReadingLaws.{broken}

pub reads_back : {T : Type 0} {size alignment : ℕ} (shape : Shape T size alignment) (S : List ℕ)
    (f : ℕ) (r : Result T ErrorKind) → Answer (own_reading shape S f) r → (x : T) → shape.fits x
    → BytesStand S f (shape.encoded x) → r ≡ Ok x
reads_back shape S f (Ok y) there x fits stands =
    ap (λ y. Ok y) (shape.again S f x y fits stands there)
reads_back shape S f (Err e) it x fits stands =
    absurd (broken (shape.clauses S f) e it (shape.holds S f x fits stands))
