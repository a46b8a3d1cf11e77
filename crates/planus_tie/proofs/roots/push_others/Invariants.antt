use Rattle.std.proofs.Common.{◌≡◌, ◌++◌, codes, decimal, drop}
use Rattle.std.specs.List.{flat_map}
use Rattle.planus_tie.proofs.roots.push_others.Given as goal

abbrev pub invariant-loop-byte : goal.invariant-loop-byte
invariant-loop-byte l =
    l.out.items ++ flat_map (λ x. codes "," ++ decimal x) (drop l.byte-index l.bytes)
    ≡ l.fn.out.items ++ flat_map (λ x. codes "," ++ decimal x) l.bytes
