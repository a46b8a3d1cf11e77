use Rattle.std.proofs.Common.{ap, sym, ◌∙◌, refl}
use Rattle.std.specs.String.{string_bytes}
use Rattle.planus_json.specs.Json.{members_tokens}
use Rattle.planus_json.specs.Trees.{no_union_members}
use Rattle.planus_json.proofs.Printing.{named, first_failed, two}
use Rattle.planus_json.proofs.walk.print_no_union.Goals as goal

pub returns-in_err-put_name-in-Some : goal.returns-in_err-put_name-in-Some
returns-in_err-put_name-in-Some c = λ ps same.
    let line = c.args.line.now in
    first_failed _ _ _ _ _ _ _ _ c.from_residual.ensures.1 (c.in_err-put_name-in-Some.ensures (named line (string_bytes c.args.field.now.name)) (ap (named line) (sym c.as_str.ensures.value)))
    (same ∙ ap (λ tag. members_tokens line (no_union_members c.args.field.now.required (string_bytes c.args.field.now.name) c.args.path.now tag)) (sym c.in-Some.ensures))

pub returns-in_ok-put_name-in-Some : goal.returns-in_ok-put_name-in-Some
returns-in_ok-put_name-in-Some c = λ ps same.
    let line = c.args.line.now in
    two _ _ _ _ _ _ _ (c.in_ok-put_name-in-Some.ensures (named line (string_bytes c.args.field.now.name)) (ap (named line) (sym c.as_str.ensures.value))) (c.put_lone_tag.ensures _ refl)
    (same ∙ ap (λ tag. members_tokens line (no_union_members c.args.field.now.required (string_bytes c.args.field.now.name) c.args.path.now tag)) (sym c.in-Some.ensures))
