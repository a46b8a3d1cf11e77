use Rattle.std.proofs.Common.{◌≡◌, ◌++◌, drop, List}
use Rattle.planus_schema.specs.declared.plan.Line.{Line}
use Rattle.planus_tie.specs.Shapes.{AreLines}
use Rattle.planus_tie.proofs.shapes.lines_of.Given as goal

abbrev pub invariant-declared : goal.invariant-declared
invariant-declared l = record {
  index : l.index ≡ l.one-index;
  rest : (rest : List Line) → AreLines l.declared l.one-index (drop l.one-index l.declared) rest
      → AreLines l.declared 0 l.declared (l.lines.items ++ rest);
}
