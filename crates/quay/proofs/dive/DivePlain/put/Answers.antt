use Rattle.std.specs.Prelude.{◌≡◌, []}
use Rattle.std.proofs.Common.{arith, ap, subst, ◌∙◌}
use Rattle.std.proofs.lemmas.List.{nil_from_length}
use Rattle.planus.specs.Printed.{joined, ended, both}
use Rattle.quay.specs.Dive as spec
use Rattle.quay.proofs.dive.DivePlain.put.Goals as goal

pub returns-clause-encoded : goal.returns-clause-encoded
returns-clause-encoded c =
    let none : c.split_at_mut-bytes_2.result.1.now ≡ [] = nil_from_length _ (omega (
      arith,
      c.requires,
      c.split_at_mut-bytes_1.ensures.back_len,
      c.split_at_mut-bytes_2.ensures.back_len,
    )) in
    (joined (c.put.ensures.encoded ∙ ap spec.dive_part_1_shape.encoded c.part_1.ensures)
    (joined (c.put-2.ensures.encoded ∙ ap spec.dive_part_2_shape.encoded c.part_2.ensures)
    (ended none))).is

pub returns-clause-fits : goal.returns-clause-fits
returns-clause-fits c =
    (both (subst (λ x. spec.dive_part_1_shape.fits x) c.part_1.ensures c.put.ensures.fits)
    (both (subst (λ x. spec.dive_part_2_shape.fits x) c.part_2.ensures c.put-2.ensures.fits) tt))
