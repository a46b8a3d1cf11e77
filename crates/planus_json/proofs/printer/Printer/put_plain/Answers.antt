use Rattle.std.proofs.Common.{[], ◌∷◌, refl}
use Rattle.planus_json.specs.Json.{plain}
use Rattle.planus_json.proofs.Printing.{printed_as, printed_one}
use Rattle.planus_json.proofs.printer.Printer.put_plain.Goals as goal

pub returns : goal.returns
returns c = λ ps same.
    let old = c.args.self.now in let new = c.end.new.self in let p = plain c.args.text.now in
    printed_as old new (p ∷ []) ps c.end.result (printed_one old (record old { text = c.push_str.new.self }) new p c.args.text.now old.first c.end.result refl (c.in_ok-push_str.ensures.bytes) refl refl refl c.end.ensures) same
