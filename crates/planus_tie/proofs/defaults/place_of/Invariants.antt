use Rattle.std.proofs.Common.{◌≡◌, ◌+◌, drop}
use Rattle.planus_tie.specs.Wanted.{place_of}
use Rattle.planus_tie.proofs.defaults.place_of.Given as goal

abbrev pub invariant-values : goal.invariant-values
invariant-values l = record {
  place : l.place ≡ l.value-index;
  rest : l.place + place_of l.number (drop l.value-index l.values) ≡ place_of l.number l.values;
}
