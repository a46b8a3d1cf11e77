use Rattle.std.proofs.Common.{ap, sym, ◌∙◌, refl}
use Rattle.std.specs.String.{string_bytes}
use Rattle.planus_json.specs.Trees.{type_name}
use Rattle.planus_json.proofs.Printing.{named, first_failed, two}
use Rattle.planus_json.proofs.unions.print_unions_type.Goals as goal

pub returns-in_err-put_name : goal.returns-in_err-put_name
returns-in_err-put_name c = λ ps same.
    let line = c.args.line.now in
    let same-name = c.as_str-2.ensures.value ∙ c.in_ok-name.ensures ∙ ap type_name c.as_str.ensures.value in
    first_failed _ _ _ _ _ _ _ _ c.from_residual-in_err-put_name.ensures.1 (c.in_err-put_name.ensures (named line (type_name (string_bytes c.args.field.now.name))) (ap (named line) (sym same-name))) same

pub returns : goal.returns
returns c = λ ps same.
    let line = c.args.line.now in
    let same-name = c.as_str-2.ensures.value ∙ c.in_ok-name.ensures ∙ ap type_name c.as_str.ensures.value in
    two _ _ _ _ _ _ _ (c.in_ok-put_name.ensures (named line (type_name (string_bytes c.args.field.now.name))) (ap (named line) (sym same-name))) (c.print_types.ensures _ refl) same
