use Rattle.std.proofs.Common.{ℕ, ◌-◌, ◌%◌}
use Rattle.std.proofs.lemmas.Bool.{eqb-true, eq-eqb}
use Rattle.std.proofs.lemmas.Nat.Gcd.{dvd_of_mod-eq-zero, mod-eq-zero_of_dvd}
use Rattle.planus_bench.proofs.tests.plain_padding.keeps_one.Goals as goal

pub returns : goal.returns
returns c =
    let r : ℕ = (c.args.length - c.args.distance) % c.args.alignment in (
      λ t. record { reaches = c.if-length-distance.false; aligns = dvd_of_mod-eq-zero c.args.alignment (eqb-true r 0 t) },
      λ k. eq-eqb r 0 (mod-eq-zero_of_dvd c.args.alignment k.aligns),
    )
