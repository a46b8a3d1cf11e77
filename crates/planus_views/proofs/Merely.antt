-- Clauses out of a truncation: each has at most one proof.
use Rattle.std.proofs.Common.{ℕ, List}
use Rattle.std.proofs.Math.Logic.{∥∥₁_elim, ∥∥₁_map}
use Rattle.std.proofs.Props.{props}
use Rattle.std.proofs.lemmas.Str.{IsUtf8-had}
use Rattle.planus_read.specs.Clauses.{AllHold}
use Rattle.planus_read.specs.Reading.{byte_list_clauses, vector_clauses, table_clauses}
use Rattle.planus_read.specs.Reading.{union_vector_clauses}
use Rattle.planus_views.specs.Fields.{StructHolds, TextHolds}

pub text_had : (S : List ℕ) (f : ℕ) → ∥ TextHolds S f ∥₁ → TextHolds S f
text_had S f h = (
  ∥∥₁_elim h (Prim.hlevel props) (λ t. t.0),
  (
    ∥∥₁_elim h (Prim.hlevel props) (λ t. t.1.0),
    (
      ∥∥₁_elim h (Prim.hlevel props) (λ t. t.1.1.0),
      (
        (
          ∥∥₁_elim h (Prim.hlevel props) (λ t. t.1.1.1.0.0),
          ∥∥₁_elim h (Prim.hlevel props) (λ t. t.1.1.1.0.1),
        ),
        (IsUtf8-had _ (∥∥₁_map h (λ t. t.1.1.1.1.0)), tt),
      ),
    ),
  ),
)

pub struct_had : (size : ℕ) (S : List ℕ) (f : ℕ) → ∥ StructHolds size S f ∥₁ → StructHolds size S f
struct_had size S f h = ∥∥₁_elim h (Prim.hlevel props) (λ t. t)

pub bytes_had :
    (S : List ℕ) (f : ℕ) → ∥ AllHold (byte_list_clauses S f) ∥₁ → AllHold (byte_list_clauses S f)
bytes_had S f h = ∥∥₁_elim h (Prim.hlevel props) (λ t. t)

pub vector_had :
    (S : List ℕ) (f size : ℕ) → ∥ AllHold (vector_clauses S f size) ∥₁
    → AllHold (vector_clauses S f size)
vector_had S f size h = ∥∥₁_elim h (Prim.hlevel props) (λ t. t)

pub unions_had :
    (S : List ℕ) (f g : ℕ) → ∥ AllHold (union_vector_clauses S f g) ∥₁
    → AllHold (union_vector_clauses S f g)
unions_had S f g h = ∥∥₁_elim h (Prim.hlevel props) (λ t. t)

pub table_had :
    (S : List ℕ) (f : ℕ) → ∥ AllHold (table_clauses S f) ∥₁ → AllHold (table_clauses S f)
table_had S f h = ∥∥₁_elim h (Prim.hlevel props) (λ t. t)
