use Rattle.std.proofs.Common.{sym, subst}
use Rattle.std.specs.Prelude.{T}
use Rattle.planus_read.proofs.impls.floats.f64_bits.Goals as goal

pub returns-clause-fits : goal.returns-clause-fits
returns-clause-fits c = subst T (sym c.well_formed.0.1) tt
