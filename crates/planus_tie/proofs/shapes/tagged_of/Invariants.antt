use Rattle.std.proofs.Common.{◌≡◌, ◌++◌, drop}
use Rattle.planus_tie.specs.Shapes.{tagged_from}
use Rattle.planus_tie.proofs.shapes.tagged_of.Given as goal

abbrev pub invariant-declared : goal.invariant-declared
invariant-declared l = record {
  index : l.index ≡ l.one-index;
  rest : l.all.items ++ tagged_from l.declared l.ranks l.index (drop l.one-index l.declared)
      ≡ tagged_from l.declared l.ranks 0 l.declared;
}
