use Rattle.std.proofs.Common.{◌≡◌, ◌++◌, drop}
use Rattle.planus_conform.specs.Breaks.{breaks_from}
use Rattle.planus_conform.proofs.conform.add_all.Given as goal

abbrev pub invariant-declared : goal.invariant-declared
invariant-declared l = record {
  index : l.index ≡ l.one-index;
  breaks : l.breaks.items ++ breaks_from l.way l.matches l.new l.index (drop l.one-index l.old)
      ≡ l.fn.breaks.items ++ breaks_from l.way l.matches l.new 0 l.old;
}
