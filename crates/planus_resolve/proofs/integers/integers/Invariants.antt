use Rattle.std.proofs.Common.{◌≡◌, map, drop}
use Rattle.planus_resolve.specs.Names.{head_of}
use Rattle.planus_resolve.specs.Enums.{integers_from, integers_of}
use Rattle.planus_resolve.proofs.integers.integers.Given as goal

abbrev pub invariant-heads : goal.invariant-heads
invariant-heads l =
    integers_from (map head_of l.heads) l.integers.items (map head_of (drop l.head-index l.heads))
    ≡ integers_of (map head_of l.heads)
