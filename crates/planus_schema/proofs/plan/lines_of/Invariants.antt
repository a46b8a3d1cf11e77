use Rattle.std.proofs.Common.{◌≡◌, ◌++◌, drop, map}
use Rattle.planus_schema.specs.Plans.{line_of, lines_from}
use Rattle.planus_schema.proofs.plan.lines_of.Given as goal

abbrev pub invariant-fields : goal.invariant-fields
invariant-fields l = record {
  place : l.place ≡ l.field-index;
  lines : map line_of l.lines.items
      ++ lines_from l.declared l.table l.field-index (drop l.field-index l.fields)
      ≡ lines_from l.declared l.table 0 l.fields;
}
