use Rattle.std.proofs.Common.{◌≡◌, drop}
use Rattle.planus_tie.specs.Files.{has_tables}
use Rattle.planus_tie.proofs.files.has_tables.Given as goal

abbrev pub invariant-declared : goal.invariant-declared
invariant-declared l = has_tables (drop l.one-index l.declared) ≡ has_tables l.declared
