use Rattle.std.proofs.Common.{refl, ◌∙◌}
use Rattle.planus_cli.proofs.sources.Sources.begin.Goals as goal

pub returns : goal.returns
returns c = record {
  begun = c.in_ok-from_slice.field-0;
  named = c.in_ok-from_slice.ensures.items ∙ c.as_bytes.ensures.value;
  begins = c.in_ok-push.ensures.items;
  files = refl;
  declarations = refl;
}
