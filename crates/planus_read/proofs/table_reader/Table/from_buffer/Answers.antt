use Rattle.std.proofs.Common.{◌≡◌, ℕ, ◌+◌, ◌≤◌, List, length, drop, ap, subst, ◌∙◌}
use Rattle.std.specs.Int.{w32}
use Rattle.planus_read.specs.Clauses.{AllHold}
use Rattle.planus_read.specs.Slices.{slice_bytes, slice_start}
use Rattle.planus_read.specs.Reading.{target, object_clauses, slots_of}
use Rattle.std.proofs.lemmas.Result.{err_from_is_err_and}
use Rattle.planus_read.proofs.Reading.{table_answer, table_refused, num_inside, num_value}
use Rattle.planus_read.proofs.table_reader.Table.from_buffer.Goals as goal

pub returns-in_err-vtable : goal.returns-in_err-vtable
returns-in_err-vtable c =
    let S : List ℕ = slice_bytes c.args.buffer in let f : ℕ = c.args.offset in
    let value = c.in_ok-value.value in let there = c.in_ok-value.ensures in
    let r = c.from_residual-in_err-vtable in let p = err_from_is_err_and r.result r.ensures.1 in
    rw (p.1, p.2) (table_refused S f (f + value) c.in_err-vtable.field-0.0
    (num_inside S f w32 value there) (ap (λ n. f + n) (num_value S f w32 value there))
    c.in_err-vtable.ensures.error)

pub returns : goal.returns
returns c =
    let S : List ℕ = slice_bytes c.args.buffer in let f : ℕ = c.args.offset in
    let at : ℕ = f + c.in_ok-value.value in
    let to : at ≡ target S f =
    ap (λ n. f + n) (num_value S f w32 c.in_ok-value.value c.in_ok-value.ensures) in
    let slice = c.unchecked_advance-object.ensures in
    let inside : target S f ≤ length S = subst (λ o. o ≤ length S) to slice.inside in
    let object : AllHold (object_clauses S (target S f)) =
    subst (λ o. AllHold (object_clauses S o)) to c.in_ok-vtable.ensures.holds in
    table_answer S (slice_start c.args.buffer) f _
    (num_inside S f w32 c.in_ok-value.value c.in_ok-value.ensures, (inside, object))
    (slice.bytes ∙ ap (λ o. drop o S) to)
    (slice.start ∙ ap (λ o. slice_start c.args.buffer + o) to)
    (c.in_ok-vtable.ensures.slots ∙ ap (slots_of S) to)
