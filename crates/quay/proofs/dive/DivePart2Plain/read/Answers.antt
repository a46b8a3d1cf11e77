use Rattle.std.specs.Prelude.{[], ℕ, List}
use Rattle.planus.specs.Printed.{slice_bytes, u16_shape, f64_shape}
use Rattle.quay.specs.Gear.{gear_shape}
use Rattle.std.specs.Prelude.{◌+◌, ◌++◌}
use Rattle.planus.specs.Printed.{both, Clause, own_reading, in_part, behind_part, passed_on}
use Rattle.quay.specs.Dive as spec
use Rattle.quay.proofs.dive.DivePart2Plain.read.Goals as goal

-- the clauses behind one
abbrev behind_6 : List ℕ → ℕ → List Clause
behind_6 S f = gear_shape.clauses S (f + 14) ++ []

abbrev behind_5 : List ℕ → ℕ → List Clause
behind_5 S f = gear_shape.clauses S (f + 13) ++ behind_6 S f

abbrev behind_4 : List ℕ → ℕ → List Clause
behind_4 S f = gear_shape.clauses S (f + 12) ++ behind_5 S f

abbrev behind_3 : List ℕ → ℕ → List Clause
behind_3 S f = gear_shape.clauses S (f + 11) ++ behind_4 S f

abbrev behind_2 : List ℕ → ℕ → List Clause
behind_2 S f = gear_shape.clauses S (f + 10) ++ behind_3 S f

abbrev behind_1 : List ℕ → ℕ → List Clause
behind_1 S f = u16_shape.clauses S (f + 8) ++ behind_2 S f

pub returns-3-clause-answer : goal.returns-3-clause-answer
returns-3-clause-answer c =
    passed_on (own_reading spec.dive_part_2_shape (slice_bytes c.args.buffer) c.args.offset) _
    c.read_fields-from_residual-3.ensures.1 (behind_part f64_shape (slice_bytes c.args.buffer)
    c.args.offset (behind_1 (slice_bytes c.args.buffer) c.args.offset)
    c.in_Continue-read_fields-read_fields.ensures.answer (behind_part u16_shape
    (slice_bytes c.args.buffer) (c.args.offset + 8) (behind_2 (slice_bytes c.args.buffer)
    c.args.offset) c.in_Continue-read_fields-read_fields-2.ensures.answer (in_part gear_shape
    (slice_bytes c.args.buffer) (c.args.offset + 10) (behind_3 (slice_bytes c.args.buffer)
    c.args.offset) c.in_Break-read_fields-read_fields-3.ensures.answer)))

pub returns-4-clause-answer : goal.returns-4-clause-answer
returns-4-clause-answer c =
    passed_on (own_reading spec.dive_part_2_shape (slice_bytes c.args.buffer) c.args.offset) _
    c.read_fields-from_residual-4.ensures.1 (behind_part f64_shape (slice_bytes c.args.buffer)
    c.args.offset (behind_1 (slice_bytes c.args.buffer) c.args.offset)
    c.in_Continue-read_fields-read_fields.ensures.answer (behind_part u16_shape
    (slice_bytes c.args.buffer) (c.args.offset + 8) (behind_2 (slice_bytes c.args.buffer)
    c.args.offset) c.in_Continue-read_fields-read_fields-2.ensures.answer (behind_part gear_shape
    (slice_bytes c.args.buffer) (c.args.offset + 10) (behind_3 (slice_bytes c.args.buffer)
    c.args.offset) c.in_Continue-read_fields-read_fields-3.ensures.answer (in_part gear_shape
    (slice_bytes c.args.buffer) (c.args.offset + 11) (behind_4 (slice_bytes c.args.buffer)
    c.args.offset) c.in_Break-read_fields-read_fields-4.ensures.answer))))

pub returns-5-clause-answer : goal.returns-5-clause-answer
returns-5-clause-answer c =
    passed_on (own_reading spec.dive_part_2_shape (slice_bytes c.args.buffer) c.args.offset) _
    c.read_fields-from_residual-5.ensures.1 (behind_part f64_shape (slice_bytes c.args.buffer)
    c.args.offset (behind_1 (slice_bytes c.args.buffer) c.args.offset)
    c.in_Continue-read_fields-read_fields.ensures.answer (behind_part u16_shape
    (slice_bytes c.args.buffer) (c.args.offset + 8) (behind_2 (slice_bytes c.args.buffer)
    c.args.offset) c.in_Continue-read_fields-read_fields-2.ensures.answer (behind_part gear_shape
    (slice_bytes c.args.buffer) (c.args.offset + 10) (behind_3 (slice_bytes c.args.buffer)
    c.args.offset) c.in_Continue-read_fields-read_fields-3.ensures.answer (behind_part gear_shape
    (slice_bytes c.args.buffer) (c.args.offset + 11) (behind_4 (slice_bytes c.args.buffer)
    c.args.offset) c.in_Continue-read_fields-read_fields-4.ensures.answer (in_part gear_shape
    (slice_bytes c.args.buffer) (c.args.offset + 12) (behind_5 (slice_bytes c.args.buffer)
    c.args.offset) c.in_Break-read_fields-read_fields-5.ensures.answer)))))

pub returns-6-clause-answer : goal.returns-6-clause-answer
returns-6-clause-answer c =
    passed_on (own_reading spec.dive_part_2_shape (slice_bytes c.args.buffer) c.args.offset) _
    c.read_fields-from_residual-6.ensures.1 (behind_part f64_shape (slice_bytes c.args.buffer)
    c.args.offset (behind_1 (slice_bytes c.args.buffer) c.args.offset)
    c.in_Continue-read_fields-read_fields.ensures.answer (behind_part u16_shape
    (slice_bytes c.args.buffer) (c.args.offset + 8) (behind_2 (slice_bytes c.args.buffer)
    c.args.offset) c.in_Continue-read_fields-read_fields-2.ensures.answer (behind_part gear_shape
    (slice_bytes c.args.buffer) (c.args.offset + 10) (behind_3 (slice_bytes c.args.buffer)
    c.args.offset) c.in_Continue-read_fields-read_fields-3.ensures.answer (behind_part gear_shape
    (slice_bytes c.args.buffer) (c.args.offset + 11) (behind_4 (slice_bytes c.args.buffer)
    c.args.offset) c.in_Continue-read_fields-read_fields-4.ensures.answer (behind_part gear_shape
    (slice_bytes c.args.buffer) (c.args.offset + 12) (behind_5 (slice_bytes c.args.buffer)
    c.args.offset) c.in_Continue-read_fields-read_fields-5.ensures.answer (in_part gear_shape
    (slice_bytes c.args.buffer) (c.args.offset + 13) (behind_6 (slice_bytes c.args.buffer)
    c.args.offset) c.in_Break-read_fields-read_fields-6.ensures.answer))))))

pub returns-7-clause-answer : goal.returns-7-clause-answer
returns-7-clause-answer c =
    passed_on (own_reading spec.dive_part_2_shape (slice_bytes c.args.buffer) c.args.offset) _
    c.read_fields-from_residual-7.ensures.1 (behind_part f64_shape (slice_bytes c.args.buffer)
    c.args.offset (behind_1 (slice_bytes c.args.buffer) c.args.offset)
    c.in_Continue-read_fields-read_fields.ensures.answer (behind_part u16_shape
    (slice_bytes c.args.buffer) (c.args.offset + 8) (behind_2 (slice_bytes c.args.buffer)
    c.args.offset) c.in_Continue-read_fields-read_fields-2.ensures.answer (behind_part gear_shape
    (slice_bytes c.args.buffer) (c.args.offset + 10) (behind_3 (slice_bytes c.args.buffer)
    c.args.offset) c.in_Continue-read_fields-read_fields-3.ensures.answer (behind_part gear_shape
    (slice_bytes c.args.buffer) (c.args.offset + 11) (behind_4 (slice_bytes c.args.buffer)
    c.args.offset) c.in_Continue-read_fields-read_fields-4.ensures.answer (behind_part gear_shape
    (slice_bytes c.args.buffer) (c.args.offset + 12) (behind_5 (slice_bytes c.args.buffer)
    c.args.offset) c.in_Continue-read_fields-read_fields-5.ensures.answer (behind_part gear_shape
    (slice_bytes c.args.buffer) (c.args.offset + 13) (behind_6 (slice_bytes c.args.buffer)
    c.args.offset) c.in_Continue-read_fields-read_fields-6.ensures.answer (in_part gear_shape
    (slice_bytes c.args.buffer) (c.args.offset + 14) []
    c.in_Break-read_fields-read_fields-7.ensures.answer)))))))

pub returns-8-clause-answer : goal.returns-8-clause-answer
returns-8-clause-answer c =
    (both c.in_Continue-read_fields-read_fields.ensures.answer
    (both c.in_Continue-read_fields-read_fields-2.ensures.answer
    (both c.in_Continue-read_fields-read_fields-3.ensures.answer
    (both c.in_Continue-read_fields-read_fields-4.ensures.answer
    (both c.in_Continue-read_fields-read_fields-5.ensures.answer
    (both c.in_Continue-read_fields-read_fields-6.ensures.answer
    (both c.in_Continue-read_fields-read_fields-7.ensures.answer tt)))))))

pub returns-8-clause-fits : goal.returns-8-clause-fits
returns-8-clause-fits c =
    (both c.in_Continue-read_fields-read_fields.ensures.fits
    (both c.in_Continue-read_fields-read_fields-2.ensures.fits
    (both c.in_Continue-read_fields-read_fields-3.ensures.fits
    (both c.in_Continue-read_fields-read_fields-4.ensures.fits
    (both c.in_Continue-read_fields-read_fields-5.ensures.fits
    (both c.in_Continue-read_fields-read_fields-6.ensures.fits
    (both c.in_Continue-read_fields-read_fields-7.ensures.fits tt)))))))
