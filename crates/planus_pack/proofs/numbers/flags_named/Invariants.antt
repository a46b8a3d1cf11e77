use Rattle.std.proofs.Common.{◌≡◌, map}
use Rattle.std.specs.Prelude.{fold, Some}
use Rattle.planus_pack.specs.Numbers.{with_flag}
use Rattle.planus_pack.proofs.numbers.flags_named.Given as goal

abbrev pub invariant-names : goal.invariant-names
invariant-names l =
    l.bits ≡ fold (with_flag l.values) (Some 0) (map (λ w. w.now) l.yielded)
