use Rattle.std.proofs.Common.{◌≡◌, drop}
use Rattle.planus_tie.specs.Files.{AreDeclaredTied}
use Rattle.planus_tie.proofs.files.are_declared_tied.Given as goal

abbrev pub invariant-declared : goal.invariant-declared
invariant-declared l = record {
  index : l.index ≡ l.one-index;
  rest : AreDeclaredTied l.naming l.files l.one-index (drop l.one-index l.naming.declared.now)
      → AreDeclaredTied l.naming l.files 0 l.naming.declared.now;
}
