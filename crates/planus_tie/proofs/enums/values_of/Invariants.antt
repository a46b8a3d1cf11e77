use Rattle.std.proofs.Common.{◌≡◌, ◌++◌, drop}
use Rattle.planus_tie.specs.Enums.{values_from}
use Rattle.planus_tie.proofs.enums.values_of.Given as goal

abbrev pub invariant-values : goal.invariant-values
invariant-values l = record {
  place : l.place ≡ l.value-index;
  rest : l.values.items ++ values_from l.index l.one l.place (drop l.value-index l.one.values.items)
      ≡ values_from l.index l.one 0 l.one.values.items;
}
