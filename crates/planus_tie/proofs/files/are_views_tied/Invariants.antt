use Rattle.std.proofs.Common.{◌≡◌, drop}
use Rattle.planus_tie.specs.Files.{AreViewsTied}
use Rattle.planus_tie.proofs.files.are_views_tied.Given as goal

abbrev pub invariant-declared : goal.invariant-declared
invariant-declared l = record {
  index : l.index ≡ l.one-index;
  rest : AreViewsTied l.naming l.ranks l.totals l.files l.one-index
      (drop l.one-index l.naming.declared.now)
      → AreViewsTied l.naming l.ranks l.totals l.files 0 l.naming.declared.now;
}
