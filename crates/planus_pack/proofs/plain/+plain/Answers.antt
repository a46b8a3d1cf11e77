use Rattle.std.proofs.Common.{◌∙◌, ap, arith, Err}
use Rattle.planus_json_syntax.specs.Values.{json_view}
use Rattle.planus_pack.specs.declared.pack_fault.PackFault.TheVariants as fault
use Rattle.planus_pack.proofs.Parts.{at_view}
use Rattle.planus_pack.proofs.Nested.{struct_too_deep, struct_within}
use Rattle.planus_pack.proofs.plain.+plain.Goals as goal

pub with_struct-returns-then-depth-eq0 : goal.with_struct-returns-then-depth-eq0
with_struct-returns-then-depth-eq0 t c =
    struct_too_deep c.args.declared.now c.args.index (json_view c.args.json.now) c.args.depth
    c.args.bytes.now.items c.if-depth-eq0.true ∙ ap (λ at. Err (fault.TooDeep, at)) (at_view c.args.json.now)

pub with_struct-returns : goal.with_struct-returns
with_struct-returns t c =
    rw (struct_within c.args.declared.now c.args.index (json_view c.args.json.now) c.args.depth
    c.args.bytes.now.items (omega arith)) c.with_struct_at.ensures
