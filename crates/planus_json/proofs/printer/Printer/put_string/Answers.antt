use Rattle.std.proofs.Common.{[], ◌∷◌, refl}
use Rattle.planus_json.specs.Json.{plain, quoted}
use Rattle.planus_json.proofs.Printing.{printed_as, printed_one}
use Rattle.planus_json.proofs.printer.Printer.put_string.Goals as goal

pub returns : goal.returns
returns c = λ ps same.
    let old = c.args.self.now in let new = c.end.new.self in let t = quoted c.args.content.now in
    printed_as old new (plain t ∷ []) ps c.end.result (printed_one old (record old { text = c.push_string.new.text }) new (plain t) t old.first c.end.result refl c.in_ok-push_string.ensures refl refl refl c.end.ensures) same
