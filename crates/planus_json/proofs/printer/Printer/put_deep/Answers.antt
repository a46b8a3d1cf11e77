use Rattle.std.proofs.Common.{[], ◌∷◌, refl}
use Rattle.planus_json.specs.Json.{deep}
use Rattle.planus_json.proofs.Printing.{printed_as, printed_fault}
use Rattle.planus_json.proofs.printer.Printer.put_deep.Goals as goal

pub returns : goal.returns
returns c = λ ps same. printed_as c.args.self.now c.args.self.now (deep ∷ []) ps _ (printed_fault c.args.self.now deep _ c.args.self.now refl) same
