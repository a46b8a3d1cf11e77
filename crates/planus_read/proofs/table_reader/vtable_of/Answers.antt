use Rattle.std.proofs.Common.{◌≡◌, ℕ, ◌+◌, ◌%◌, ◌≤◌, List, [], length, Some, refl, ap, sym, subst}
use Rattle.std.proofs.Common.{◌∙◌, inl, inr, arith, length-drop}
use Rattle.std.specs.Int.{w16}
use Rattle.planus_read.specs.Bytes.{Num}
use Rattle.planus_read.specs.Clauses.{AllHold, FirstBroken}
use Rattle.planus_read.specs.Slices.{slice_bytes}
use Rattle.planus_read.specs.Reading.{word_clauses, object_clauses, vtable_at, vtable_size_at}
use Rattle.planus_read.specs.declared.errors.ErrorKind.TheVariants.{InvalidLength}
use Rattle.planus_read.proofs.Reading.{num_inside, num_value}
use Rattle.planus_read.proofs.table_reader.vtable_of.Goals as goal

object_holds :
    (S : List ℕ) (object size : ℕ) → AllHold (word_clauses S object [])
    → Num S (vtable_at S object) w16 ≡ Some size → (4 ≤ size) × (size % 2 ≡ 0)
    → vtable_at S object + size ≤ length S → AllHold (object_clauses S object)
object_holds S object size word there right inside =
    let is : size ≡ vtable_size_at S object = num_value S (vtable_at S object) w16 size there in (
      word.0,
      (
        word.1.0,
        (
          num_inside S (vtable_at S object) w16 size there,
          (
            subst (λ z. (4 ≤ z) × (z % 2 ≡ 0)) is right,
            (subst (λ z. vtable_at S object + z ≤ length S) is inside, tt),
          ),
        ),
      ),
    )

object_too_long :
    (S : List ℕ) (object size : ℕ) → AllHold (word_clauses S object [])
    → Num S (vtable_at S object) w16 ≡ Some size → (4 ≤ size) × (size % 2 ≡ 0)
    → (vtable_at S object + size ≤ length S → ⊥)
    → FirstBroken (object_clauses S object) InvalidLength
object_too_long S object size word there right outside =
    let is : vtable_size_at S object ≡ size =
    sym (num_value S (vtable_at S object) w16 size there) in
    inr (
      word.0,
      inr (
        word.1.0,
        inr (
          num_inside S (vtable_at S object) w16 size there,
          inr (
            subst (λ z. (4 ≤ z) × (z % 2 ≡ 0)) (sym is) right,
            inl (
              λ inside. outside (subst (λ z. vtable_at S object + z ≤ length S) is inside),
              refl,
            ),
          ),
        ),
      ),
    )

pub returns-then-rest-size-clause-error : goal.returns-then-rest-size-clause-error
returns-then-rest-size-clause-error c =
    let S : List ℕ = slice_bytes c.args.buffer in let to = c.in_ok-offset.ensures.offset in
    let rest = ap length (c.as_slice-rest.ensures ∙ c.unchecked_advance.ensures.bytes) in
    object_too_long S c.args.object_offset c.in_ok-size.size c.in_ok-offset.ensures.holds
    (subst (λ t. Num S t w16 ≡ Some c.in_ok-size.size) to c.in_ok-size.ensures)
    (omega arith, omega arith)
    (λ inside. omega (arith, rest, length-drop c.in_ok-offset.offset S))

pub returns-clause-holds : goal.returns-clause-holds
returns-clause-holds c =
    let S : List ℕ = slice_bytes c.args.buffer in let to = c.in_ok-offset.ensures.offset in
    let rest = ap length (c.as_slice-rest.ensures ∙ c.unchecked_advance.ensures.bytes) in
    object_holds S c.args.object_offset c.in_ok-size.size c.in_ok-offset.ensures.holds
    (subst (λ t. Num S t w16 ≡ Some c.in_ok-size.size) to c.in_ok-size.ensures)
    (omega arith, omega arith)
    (omega (arith, rest, length-drop c.in_ok-offset.offset S))
