use Rattle.std.proofs.Common.{◌∷◌, [], ap, sym, ◌∙◌, refl}
use Rattle.std.specs.Fmt.{decimal}
use Rattle.planus_json.specs.Json.{begins, plain}
use Rattle.planus_json.proofs.Printing.{first_failed, two}
use Rattle.planus_json.proofs.leaves.print_byte.Goals as goal

pub returns-in_err-put_next : goal.returns-in_err-put_next
returns-in_err-put_next c = λ ps same. first_failed _ _ _ _ _ _ _ _ c.from_residual.ensures.1 (c.in_err-put_next.ensures _ refl) same

pub returns : goal.returns
returns c = λ ps same. two _ _ _ _ _ _ _ (c.in_ok-put_next.ensures _ refl) (c.put_scalar.ensures _ refl) (same ∙ ap (λ n. begins c.args.line.now ∷ plain (decimal n) ∷ []) (sym c.from.ensures))
