use Rattle.std.proofs.Common.{◌-◌}
use Rattle.planus_dump.specs.ReadingViews.{unions_seen}
use Rattle.planus_json.specs.Json.{items_tokens}
use Rattle.planus_json.specs.Trees.{types_trees}
use Rattle.planus_json.proofs.Printing.{Goes}
use Rattle.planus_json.proofs.unions.print_types_items.Given as goal

abbrev pub invariant-loop-i : goal.invariant-loop-i
invariant-loop-i l =
    Goes l.fn.out (items_tokens l.line (types_trees l.schema l.index (unions_seen l.unions) (unions_seen l.unions).count 0))
    (items_tokens l.line (types_trees l.schema l.index (unions_seen l.unions) ((unions_seen l.unions).count - l.i) l.i)) l.out
