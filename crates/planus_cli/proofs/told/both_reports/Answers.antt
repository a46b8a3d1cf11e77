use Rattle.std.proofs.Common.{◌++◌, ap, ◌∙◌, subst}
use Rattle.planus_cli.specs.Telling.{ReportsIn}
use Rattle.planus_cli.proofs.told.both_reports.Goals as goal

pub returns : goal.returns
returns c = record {
  first = c.in_ok-out.out.items;
  rest = c.in_ok-rest.rest.items;
  is = c.in_ok-out.ensures;
  are = subst (λ message. ReportsIn c.args.old.now c.args.before message c.in_ok-rest.rest.items) c.as_bytes.ensures.value
      c.in_ok-rest.ensures;
  joined = c.in_ok-extend_from_slice.ensures.items ∙ ap (λ xs. c.in_ok-out.out.items ++ xs) c.deref.ensures.value;
}
