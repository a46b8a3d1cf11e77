use Rattle.std.proofs.Common.{◌≡◌, true, take}
use Rattle.std.specs.List.{list_all}
use Rattle.planus_syntax.specs.Cutting.{in_run}
use Rattle.planus_syntax.proofs.lexer.split.Given as goal

abbrev pub invariant-bytes : goal.invariant-bytes
invariant-bytes l = record {
  counted : l.length ≡ l.b-index;
  each : list_all (in_run l.run) (take l.b-index l.bytes) ≡ true;
}
