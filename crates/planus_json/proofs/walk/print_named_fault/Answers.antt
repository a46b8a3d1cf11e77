use Rattle.std.proofs.Common.{ap, sym, refl}
use Rattle.std.specs.String.{string_bytes}
use Rattle.planus_json.proofs.Printing.{named, first_failed, two}
use Rattle.planus_json.proofs.walk.print_named_fault.Goals as goal

pub returns-in_err-put_name : goal.returns-in_err-put_name
returns-in_err-put_name c = λ ps same.
    let line = c.args.line.now in
    first_failed _ _ _ _ _ _ _ _ c.from_residual.ensures.1 (c.in_err-put_name.ensures (named line (string_bytes c.args.field.now.name)) (ap (named line) (sym c.as_str.ensures.value))) same

pub returns : goal.returns
returns c = λ ps same.
    let line = c.args.line.now in
    two _ _ _ _ _ _ _ (c.in_ok-put_name.ensures (named line (string_bytes c.args.field.now.name)) (ap (named line) (sym c.as_str.ensures.value))) (c.put_fault.ensures _ refl) same
