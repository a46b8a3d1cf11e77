use Rattle.std.proofs.Common.{◌≡◌, ◌++◌, length, map}
use Rattle.planus_pack.specs.Keys as spec
use Rattle.planus_pack.proofs.keys.numbers_of.Given as goal

abbrev pub invariant-keys : goal.invariant-keys
invariant-keys l =
    l.numbers.items ++ map spec.number (map spec.keyed_view l.rest.keys)
    ≡ map spec.number (map spec.keyed_view l.fn.set.keys)

abbrev pub decreases-keys : goal.decreases-keys
decreases-keys l = length l.rest.keys
