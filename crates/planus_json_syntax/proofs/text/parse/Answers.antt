use Rattle.std.proofs.Common.{◌≡◌, length, map, subst, Ok, Err}
use Rattle.planus_json_syntax.specs.Reading.{read, values_at}
use Rattle.planus_json_syntax.specs.Steps.{Fails}
use Rattle.planus_json_syntax.specs.Values.{json_view}
use Rattle.planus_json_syntax.proofs.Exact.{only_these, none_spelled}
use Rattle.planus_json_syntax.proofs.FoundValues.{found_spelled}
use Rattle.planus_json_syntax.proofs.text.parse.Goals as goal

pub returns-in-Ok-clause-found : goal.returns-in-Ok-clause-found
returns-in-Ok-clause-found c =
    let reads : read c.args.text.now ≡ Ok (map json_view c.in-Ok.values.items) =
    subst (λ bytes. values_at (length c.args.text.now) bytes ≡ Ok (map json_view c.in-Ok.values.items)) c.after_order_mark.ensures c.in-Ok.ensures.reads in
    found_spelled c.args.text.now (map json_view c.in-Ok.values.items) reads

pub returns-in-Ok-clause-only : goal.returns-in-Ok-clause-only
returns-in-Ok-clause-only c js x =
    let reads : read c.args.text.now ≡ Ok (map json_view c.in-Ok.values.items) =
    subst (λ bytes. values_at (length c.args.text.now) bytes ≡ Ok (map json_view c.in-Ok.values.items)) c.after_order_mark.ensures c.in-Ok.ensures.reads in
    only_these c.args.text.now (map json_view c.in-Ok.values.items) js reads x

pub returns-in-Err-Fault-clause-only : goal.returns-in-Err-Fault-clause-only
returns-in-Err-Fault-clause-only c js x =
    let fails : Fails c.in-Err-Fault.field-0 (read c.args.text.now) =
    subst (λ bytes. Fails c.in-Err-Fault.field-0 (values_at (length c.args.text.now) bytes)) c.after_order_mark.ensures c.in-Err-Fault.ensures.reads in
    let reads : read c.args.text.now ≡ Err (c.in-Err-Fault.kind, c.in-Err-Fault.left) =
    subst (λ error. Fails error (read c.args.text.now)) c.in-Err-Fault.field-0-is fails in
    none_spelled c.args.text.now (c.in-Err-Fault.kind, c.in-Err-Fault.left) js reads x
