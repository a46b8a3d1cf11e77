use Rattle.std.proofs.Common.{[], ◌∷◌, ◌++◌, refl, ap, ◌∙◌, false}
use Rattle.std.specs.String.{string_bytes}
use Rattle.std.proofs.lemmas.List.{append_assoc}
use Rattle.planus_json.specs.Json.{begins, comma}
use Rattle.planus_json.proofs.Printing.{printed_as, printed_one}
use Rattle.planus_json.proofs.printer.Printer.put_next.Goals as goal

pub returns : goal.returns
returns c = λ ps same.
    let old = c.args.self.now in let new = c.end.new.self in let p = begins c.args.line.now in let t = comma old.first ++ c.args.line.now in
    let all = c.in_ok-push_str-2.ensures.bytes ∙ ap (λ xs. xs ++ c.args.line.now) (c.in_ok-push_str.ensures.bytes ∙ ap (λ xs. string_bytes old.text ++ xs) c.comma.ensures)
    ∙ append_assoc (string_bytes old.text) (comma old.first) c.args.line.now in
    printed_as old new (p ∷ []) ps c.end.result (printed_one old (record old { text = c.push_str-2.new.self }) new p t false c.end.result refl all refl refl refl c.end.ensures) same
