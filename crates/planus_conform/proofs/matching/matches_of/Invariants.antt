use Rattle.std.proofs.Common.{◌≡◌, ◌++◌, drop}
use Rattle.planus_conform.specs.Matching.{matches_of as matches_of_lem}
use Rattle.planus_conform.proofs.matching.matches_of.Given as goal

abbrev pub invariant-declared : goal.invariant-declared
invariant-declared l =
    l.matches.items ++ matches_of_lem l.renames (drop l.one-index l.old) l.new
    ≡ matches_of_lem l.renames l.old l.new
