use Rattle.std.proofs.Common.{◌∙◌, refl}
use Rattle.planus_json.proofs.Printing.{first_failed, second_failed, three, list_tokens}
use Rattle.planus_json.proofs.leaves.print_byte_list.Goals as goal

pub returns-in_err-put_open : goal.returns-in_err-put_open
returns-in_err-put_open c = λ ps same. first_failed _ _ _ _ _ _ _ _ c.from_residual-in_err-put_open.ensures.1 (c.in_err-put_open.ensures 91 refl _ refl) same

pub returns-in_err-print_all_bytes : goal.returns-in_err-print_all_bytes
returns-in_err-print_all_bytes c = λ ps same.
    second_failed _ _ _ _ _ _ _ _ _ _ c.from_residual-in_err-print_all_bytes.ensures.1 (c.in_ok-put_open.ensures 91 refl _ refl) (c.in_err-print_all_bytes.ensures _ refl)
    (same ∙ list_tokens c.args.line.now c.as_str.result.now _ _ refl (c.as_str.ensures.value ∙ c.in_ok-inner.ensures))

pub returns : goal.returns
returns c = λ ps same.
    three _ _ _ _ _ _ _ _ _ (c.in_ok-put_open.ensures 91 refl _ refl) (c.in_ok-print_all_bytes.ensures _ refl) (c.put_close.ensures 93 refl _ refl)
    (same ∙ list_tokens c.args.line.now c.as_str.result.now _ _ refl (c.as_str.ensures.value ∙ c.in_ok-inner.ensures))
