use Rattle.std.proofs.Common.{[], ◌∷◌, refl, true}
use Rattle.planus_json.specs.Json.{opens}
use Rattle.planus_json.proofs.Printing.{printed_as, printed_one}
use Rattle.planus_json.proofs.printer.Printer.put_open.Goals as goal

pub returns : goal.returns
returns c = λ b is ps same.
    let old = c.args.self.now in let new = c.end.new.self in
    printed_as old new (opens b ∷ []) ps c.end.result (printed_one old (record old { text = c.push_str.new.self }) new (opens b) c.args.bracket.now true c.end.result is c.in_ok-push_str.ensures.bytes refl refl refl c.end.ensures) same
