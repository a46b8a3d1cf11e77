use Rattle.std.proofs.Common.{sym, ap, map, ◌∙◌, Some}
use Rattle.planus_json_syntax.specs.Values.{json_view, value_view}
use Rattle.planus_pack.specs.Parts.{items_of}
use Rattle.planus_pack.proofs.Parts.{list_items}
use Rattle.planus_cli.proofs.paths.items_of.Goals as goal

pub returns-in-List : goal.returns-in-List
returns-in-List c =
    ap (λ xs. Some (map json_view xs)) c.as_slice.ensures.value
    ∙ sym (list_items c.in-List.items) ∙ ap (λ v. items_of (value_view v)) (sym c.in-List.is)
