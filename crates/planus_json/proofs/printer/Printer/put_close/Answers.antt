use Rattle.std.proofs.Common.{[], ◌∷◌, ◌++◌, refl, ap, ◌∙◌, false}
use Rattle.std.specs.String.{string_bytes}
use Rattle.std.proofs.lemmas.List.{append_assoc}
use Rattle.planus_json.specs.Json.{closes, ending}
use Rattle.planus_json.proofs.Printing.{printed_as, printed_one}
use Rattle.planus_json.proofs.printer.Printer.put_close.Goals as goal

pub returns : goal.returns
returns c = λ b is ps same.
    let old = c.args.self.now in let new = c.end.new.self in let p = closes c.args.line.now b in let t = ending old.first c.args.line.now ++ b ∷ [] in
    let all = c.in_ok-push_str-2.ensures.bytes ∙ ap (λ xs. xs ++ c.args.bracket.now) (c.in_ok-push_str.ensures.bytes ∙ ap (λ xs. string_bytes old.text ++ xs) c.ending.ensures)
    ∙ append_assoc (string_bytes old.text) (ending old.first c.args.line.now) c.args.bracket.now ∙ ap (λ xs. string_bytes old.text ++ (ending old.first c.args.line.now ++ xs)) is in
    printed_as old new (p ∷ []) ps c.end.result (printed_one old (record old { text = c.push_str-2.new.self }) new p t false c.end.result refl all refl refl refl c.end.ensures) same
