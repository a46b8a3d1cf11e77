use Rattle.std.proofs.Common.{drop}
use Rattle.planus_json.specs.Json.{items_tokens}
use Rattle.planus_json.specs.Trees.{byte_trees}
use Rattle.planus_json.proofs.Printing.{Goes}
use Rattle.planus_json.proofs.leaves.print_all_bytes.Given as goal

abbrev pub invariant-loop-byte : goal.invariant-loop-byte
invariant-loop-byte l = Goes l.fn.out (items_tokens l.line (byte_trees l.content)) (items_tokens l.line (byte_trees (drop l.byte-index l.content))) l.out
