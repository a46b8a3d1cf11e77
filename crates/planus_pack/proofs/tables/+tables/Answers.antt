use Rattle.std.proofs.Common.{◌∙◌, ap, arith, map, Err}
use Rattle.planus.specs.Steps.{bare_step}
use Rattle.planus_json_syntax.specs.Values.{json_view}
use Rattle.planus_pack.specs.declared.pack_fault.PackFault.TheVariants as fault
use Rattle.planus_pack.specs.Rules.{rules_of}
use Rattle.planus_pack.proofs.Parts.{at_view}
use Rattle.planus_pack.proofs.Nested.{table_too_deep, table_within}
use Rattle.planus_pack.proofs.tables.+tables.Goals as goal

pub with_table-returns-then-depth-eq0 : goal.with_table-returns-then-depth-eq0
with_table-returns-then-depth-eq0 t c =
    table_too_deep (rules_of c.args.rules.now) c.args.index (json_view c.args.json.now) c.args.depth
    (map bare_step c.args.steps.now.items) c.if-depth-eq0.true
    ∙ ap (λ at. Err (fault.TooDeep, at)) (at_view c.args.json.now)

pub with_table-returns : goal.with_table-returns
with_table-returns t c =
    rw (table_within (rules_of c.args.rules.now) c.args.index (json_view c.args.json.now) c.args.depth
    (map bare_step c.args.steps.now.items) (omega arith)) c.table_in.ensures
