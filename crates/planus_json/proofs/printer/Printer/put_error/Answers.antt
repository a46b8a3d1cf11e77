use Rattle.std.proofs.Common.{[], ◌∷◌, sym, ap}
use Rattle.std.specs.String.{string_bytes}
use Rattle.planus_json.specs.Json.{fault}
use Rattle.planus_json.proofs.Printing.{printed_as, printed_fault}
use Rattle.planus_json.proofs.printer.Printer.put_error.Goals as goal

pub returns : goal.returns
returns c = λ ps same.
    let old = c.args.self.now in let p = fault c.args.path.now (string_bytes c.args.message) in
    printed_as old old (p ∷ []) ps _ (printed_fault old p _ old (ap (λ path. fault path (string_bytes c.args.message)) (sym c.in_ok-path.ensures.ok))) same
