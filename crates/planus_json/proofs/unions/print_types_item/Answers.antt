use Rattle.std.proofs.Common.{refl}
use Rattle.planus_json.proofs.Printing.{first_failed, two}
use Rattle.planus_json.proofs.unions.print_types_item.Goals as goal

pub returns-in_err-put_next : goal.returns-in_err-put_next
returns-in_err-put_next c = λ ps same. first_failed _ _ _ _ _ _ _ _ c.from_residual.ensures.1 (c.in_err-put_next.ensures _ refl) same

pub returns : goal.returns
returns c = λ ps same. two _ _ _ _ _ _ _ (c.in_ok-put_next.ensures _ refl) (c.print_type.ensures _ refl) same
