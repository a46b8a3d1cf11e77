use Rattle.std.proofs.Common.{◌∙◌, sym}
use Rattle.std.specs.Str.{str_eq_ignore_ascii_case}
use Rattle.planus_schema.proofs.Lists.{list_any-map}
use Rattle.planus_schema.proofs.spelling.is_like.Goals as goal

pub returns : goal.returns
returns c = c.is_among.ensures
    ∙ sym (list_any-map (λ m. str_eq_ignore_ascii_case m c.args.name.now) (λ w. w.items) c.args.names.now)
