use Rattle.std.proofs.Common.{◌≡◌, drop}
use Rattle.std.specs.List.{list_all}
use Rattle.planus_cli.specs.Printing.{is_in_name}
use Rattle.planus_cli.proofs.rattle.is_word.Given as goal

abbrev pub invariant-rest : goal.invariant-rest
invariant-rest l = list_all is_in_name (drop l.b-index l.rest) ≡ list_all is_in_name l.rest
