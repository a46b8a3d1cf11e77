use Rattle.planus_codegen.specs.Known.{in_clauses}
use Rattle.planus_codegen.proofs.known.is_in_clauses.Goals as goal

pub returns : goal.returns
unfolding in_clauses lib.Utf8.encode
returns c = c.is_in_rows.ensures
