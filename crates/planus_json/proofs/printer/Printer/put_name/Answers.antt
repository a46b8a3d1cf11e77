use Rattle.std.proofs.Common.{[], ◌∷◌, refl}
use Rattle.planus_json.specs.Json.{begins, plain, label}
use Rattle.planus_json.proofs.Printing.{printed_as, printed_then, printed_failed}
use Rattle.planus_json.proofs.printer.Printer.put_name.Goals as goal

pub returns-in_err-put_next : goal.returns-in_err-put_next
returns-in_err-put_next c = λ ps same.
    let old = c.args.self.now in let new = c.put_next.new.self in let p = begins c.args.line.now ∷ [] in let q = plain (label c.args.line.now c.args.name.now) ∷ [] in
    printed_as old new _ ps c.from_residual.result (printed_failed old new new p q _ c.from_residual.result c.from_residual.ensures.1 (c.in_err-put_next.ensures p refl)) same

pub returns : goal.returns
returns c = λ ps same.
    let old = c.args.self.now in let new = c.put_label.new.self in let p = begins c.args.line.now ∷ [] in let q = plain (label c.args.line.now c.args.name.now) ∷ [] in
    printed_as old new _ ps c.put_label.result (printed_then old c.put_next.new.self new p q c.put_label.result (c.in_ok-put_next.ensures p refl) (c.put_label.ensures q refl)) same
