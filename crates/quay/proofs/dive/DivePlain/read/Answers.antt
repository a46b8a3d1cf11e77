use Rattle.std.specs.Prelude.{[], ℕ, List}
use Rattle.planus.specs.Printed.{slice_bytes}
use Rattle.std.specs.Prelude.{◌+◌, ◌++◌}
use Rattle.planus.specs.Printed.{both, Clause, own_reading, in_part, behind_part, passed_on}
use Rattle.std.proofs.Common.{sym, subst}
use Rattle.quay.specs.Dive as spec
use Rattle.quay.proofs.dive.DivePlain.read.Goals as goal

pub returns-clause-answer : goal.returns-clause-answer
returns-clause-answer c =
    subst (λ x. spec.dive_shape.There (slice_bytes c.args.buffer) c.args.offset x)
    (sym c.of_parts.ensures)
    (both c.in_ok-part_1.ensures.answer (both c.in_ok-part_2.ensures.answer tt))

pub returns-clause-fits : goal.returns-clause-fits
returns-clause-fits c = subst (λ x. spec.dive_shape.fits x) (sym c.of_parts.ensures)
    (both c.in_ok-part_1.ensures.fits (both c.in_ok-part_2.ensures.fits tt))

-- the clauses behind one
abbrev behind_1 : List ℕ → ℕ → List Clause
behind_1 S f = spec.dive_part_2_shape.clauses S (f + 40) ++ []

pub returns-in_err-part_1-clause-answer : goal.returns-in_err-part_1-clause-answer
returns-in_err-part_1-clause-answer c =
    passed_on (own_reading spec.dive_shape (slice_bytes c.args.buffer) c.args.offset) _
    c.from_residual.ensures.1 (in_part spec.dive_part_1_shape (slice_bytes c.args.buffer)
    c.args.offset (behind_1 (slice_bytes c.args.buffer) c.args.offset)
    c.in_err-part_1.ensures.answer)

pub returns-in_err-part_2-clause-answer : goal.returns-in_err-part_2-clause-answer
returns-in_err-part_2-clause-answer c =
    passed_on (own_reading spec.dive_shape (slice_bytes c.args.buffer) c.args.offset) _
    c.from_residual-in_err-part_2.ensures.1 (behind_part spec.dive_part_1_shape
    (slice_bytes c.args.buffer) c.args.offset (behind_1 (slice_bytes c.args.buffer) c.args.offset)
    c.in_ok-part_1.ensures.answer (in_part spec.dive_part_2_shape (slice_bytes c.args.buffer)
    (c.args.offset + 40) [] c.in_err-part_2.ensures.answer))
