use Rattle.std.proofs.Common.{refl}
use Rattle.std.proofs.Math.Nat.{dvd-mul_left}
use Rattle.planus_testing.proofs.worked_rows.union_vector.Goals as goal

pub returns-clause-stands : goal.returns-clause-stands
returns-clause-stands c = ((refl, refl), (refl, ((16, refl, refl), ((4, refl, refl), tt))))

pub returns-clause-aligned : goal.returns-clause-aligned
returns-clause-aligned c = (
  dvd-mul_left 4 0,
  (dvd-mul_left 4 2, (dvd-mul_left 4 3, (dvd-mul_left 4 4, tt))),
)

pub returns-clause-first_aligned : goal.returns-clause-first_aligned
returns-clause-first_aligned c = dvd-mul_left 4 7

pub returns-clause-second_aligned : goal.returns-clause-second_aligned
returns-clause-second_aligned c = dvd-mul_left 4 5
