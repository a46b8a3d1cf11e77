use Rattle.std.proofs.Common.{◌∙◌, sym}
use Rattle.std.specs.Str.{bytes_eq}
use Rattle.planus_schema.proofs.Lists.{list_any-map}
use Rattle.planus_codegen.proofs.names.is_type.Goals as goal

pub returns : goal.returns
returns c = c.has_name.ensures
    ∙ sym (list_any-map (λ w. bytes_eq w c.args.name.now) (λ w. w.items) c.args.types.now)
