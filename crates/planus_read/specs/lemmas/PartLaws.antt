-- Laws of parts that stand one behind another, by which structs of many fields are written and read.
use Rattle.std.specs.Prelude.{◌≡◌, ℕ, List, [], ◌∷◌, ◌++◌, Result, Ok, Err, IsErrAnd}
use Rattle.std.proofs.Common.{sym, ap, subst, ◌∙◌, append_assoc, append-nil, inl, inr}
use Rattle.planus_read.specs.declared.errors.ErrorKind.{ErrorKind}
use Rattle.planus_read.specs.Clauses.{Clause, Reading, Answer, AllHold, FirstBroken}
use Rattle.planus_read.specs.Plain.{Shape}

-- the first list has the bytes of some fields, and then these
pub record Ends (list fields end : List ℕ) : Type 0 where
  pub is : list ≡ fields ++ end

pub joined : {a e l f z : List ℕ} → a ≡ e → Ends l f z → Ends (a ++ l) (e ++ f) z
joined {a} {e} {l} {f} {z} first rest = record {
  is = ap (λ x. x ++ l) first ∙ ap (λ x. e ++ x) rest.is ∙ sym (append_assoc e f z);
}

pub ended : {l z : List ℕ} → l ≡ z → Ends l [] z
ended same = record { is = same }

pub nothing_more : {a z l : List ℕ} → a ≡ z → l ≡ [] → a ++ l ≡ z
nothing_more {a} {z} {l} first none = ap (λ x. a ++ x) none ∙ append-nil a ∙ first

-- what is known of a part, and of those behind it
pub both : {A B : Type 0} → A → B → A × B
both first rest = (first, rest)

-- the error is that of the first clause that fails
pub record Fails (clauses : List Clause) (e : ErrorKind) : Type 0 where
  pub is : FirstBroken clauses e

in_front : (a b : List Clause) (e : ErrorKind) → FirstBroken a e → FirstBroken (a ++ b) e
in_front [] b e broken = elim broken [ ]
in_front (first ∷ rest) b e (inl here) = inl here
in_front (first ∷ rest) b e (inr later) = inr (later.0, in_front rest b e later.1)

behind_all : (a b : List Clause) (e : ErrorKind) → AllHold a → FirstBroken b e
    → FirstBroken (a ++ b) e
behind_all [] b e held broken = broken
behind_all (first ∷ rest) b e held broken = inr (held.0, behind_all rest b e held.1 broken)

-- it fails in this part
pub in_part :
    {B : Type 0} {bytes align : ℕ} {e : ErrorKind} (part : Shape B bytes align) (S : List ℕ) (f : ℕ)
    (rest : List Clause) → FirstBroken (part.clauses S f) e → Fails (part.clauses S f ++ rest) e
in_part {B} {bytes} {align} {e} part S f rest broken =
    record { is = in_front (part.clauses S f) rest e broken }

-- it fails behind this part, which was read
pub behind_part :
    {B : Type 0} {bytes align : ℕ} {e : ErrorKind} {x : B} (part : Shape B bytes align) (S : List ℕ)
    (f : ℕ) (rest : List Clause) → part.There S f x → Fails rest e
    → Fails (part.clauses S f ++ rest) e
behind_part {B} {bytes} {align} {e} {x} part S f rest there fails = record {
  is = behind_all (part.clauses S f) rest e (part.unbroken S f x there) fails.is;
}

error_answers : {A : Type 0} (own : Reading A) (e : ErrorKind) (r : Result A ErrorKind)
    → FirstBroken own.clauses e → IsErrAnd r (λ x. x ≡ e) → Answer own r
error_answers own e (Ok x) broken failed = elim failed [ ]
error_answers own e (Err x) broken same = subst (λ y. FirstBroken own.clauses y) (sym same) broken

-- a part's error is the whole's
pub passed_on : {A : Type 0} {e : ErrorKind} (own : Reading A) (r : Result A ErrorKind)
    → IsErrAnd r (λ x. x ≡ e) → Fails own.clauses e → Answer own r
passed_on {A} {e} own r same fails = error_answers own e r fails.is same
