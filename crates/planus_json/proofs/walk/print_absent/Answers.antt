use Rattle.std.proofs.Common.{ap, sym, ◌∙◌, refl}
use Rattle.std.specs.String.{string_bytes}
use Rattle.planus_json.specs.Json.{members_tokens}
use Rattle.planus_json.specs.Trees.{absent_members}
use Rattle.planus_json.proofs.Printing.{named, printed_none, first_failed, two}
use Rattle.planus_json.proofs.walk.print_absent.Goals as goal

pub returns-in_err-put_name : goal.returns-in_err-put_name
returns-in_err-put_name c = λ ps same.
    let line = c.args.line.now in
    first_failed _ _ _ _ _ _ _ _ c.from_residual.ensures.1 (c.in_err-put_name.ensures (named line (string_bytes c.args.field.now.name)) (ap (named line) (sym c.as_str.ensures.value)))
    (same ∙ ap (λ required. members_tokens line (absent_members required (string_bytes c.args.field.now.name) c.args.path.now)) c.if-field.true)

pub returns-in_ok-put_name : goal.returns-in_ok-put_name
returns-in_ok-put_name c = λ ps same.
    let line = c.args.line.now in
    two _ _ _ _ _ _ _ (c.in_ok-put_name.ensures (named line (string_bytes c.args.field.now.name)) (ap (named line) (sym c.as_str.ensures.value))) (c.put_fault.ensures _ refl)
    (same ∙ ap (λ required. members_tokens line (absent_members required (string_bytes c.args.field.now.name) c.args.path.now)) c.if-field.true)

pub returns-else-field : goal.returns-else-field
returns-else-field c = λ ps same.
    printed_none c.args.out.now ps (same ∙ ap (λ required. members_tokens c.args.line.now (absent_members required (string_bytes c.args.field.now.name) c.args.path.now)) c.if-field.false)
