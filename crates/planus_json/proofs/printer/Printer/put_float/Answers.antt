use Rattle.std.proofs.Common.{[], ◌∷◌, refl, sym, subst}
use Rattle.planus_json.specs.Json.{number, IsFloatText}
use Rattle.planus_json.proofs.Printing.{printed_as, printed_one}
use Rattle.planus_json.proofs.printer.Printer.put_float.Goals as goal

pub returns : goal.returns
returns c = λ ps same.
    let old = c.args.self.now in let new = c.end.new.self in let p = number c.args.bits in
    printed_as old new (p ∷ []) ps c.end.result
    (printed_one old (record old { text = c.push_str.new.self }) new p c.as_str.result.now old.first c.end.result (subst (IsFloatText old.strict c.args.bits) (sym c.as_str.ensures.value) c.in_ok-text.ensures)
    c.in_ok-push_str.ensures.bytes refl refl refl c.end.ensures) same
