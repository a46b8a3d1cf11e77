use Rattle.std.proofs.Common.{◌∙◌}
use Rattle.planus_tie.proofs.Tied.{schema_by}
use Rattle.planus_tie.proofs.schema.is_schema_tied.Goals as goal

pub returns : goal.returns
returns c = schema_by c.args.naming.now c.args.ranks.now c.args.text.now c.deref-2.result.now
    c.deref.result.now c.in_ok-lines.lines.items c.is_schema_text.result c.deref.ensures.value
    c.in_ok-lines.ensures (c.deref-2.ensures.value ∙ c.in_ok-without.ensures)
    c.is_schema_text.ensures
