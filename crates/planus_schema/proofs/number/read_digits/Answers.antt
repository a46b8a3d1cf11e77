use Rattle.std.proofs.Common.{◌≡◌, ◌+◌, ◌*◌, arith, sym, ap, ◌∙◌, take, get_or, subst, true}
use Rattle.std.specs.Prelude.{None}
use Rattle.std.specs.List.{list_all}
use Rattle.std.proofs.lemmas.Grind.{common_steps}
use Rattle.planus_schema.specs.Numbers.{held, base, digit_value, is_digit, value_in}
use Rattle.planus_schema.proofs.NumberLemmas.{too_large, all_digits}
use Rattle.planus_schema.proofs.number.read_digits.Goals as goal

pub returns-in-None-clause-said : goal.returns-in-None-clause-said
returns-in-None-clause-said c =
    let t = c.digits.total in
    let h = c.args.hexadecimal in
    let b = get_or c.args.digits.now c.digits.b-index 0 in
    let e : held (t * base h + digit_value b) ≡ None = ap (λ n. held (n + digit_value b)) (ap (λ n. t * n) (sym c.base.ensures)) ∙ ap (λ n. held (t * c.base.result + n)) (sym c.digit_value.ensures) ∙ sym c.with_digit.ensures ∙ c.in-None.is in
    sym (too_large h c.args.digits.now c.digits.b-index t (omega arith) c.digits.invariant.value e)

pub returns-clause-said : goal.returns-clause-said
returns-clause-said c =
    let e : take c.digits.b-index c.args.digits.now ≡ c.args.digits.now = grind (arith, common_steps) in
    all_digits c.args.hexadecimal c.args.digits.now c.digits.total
    (subst (λ ds. list_all (is_digit c.args.hexadecimal) ds ≡ true) e c.digits.invariant.digits)
    (c.digits.invariant.value ∙ ap (value_in (base c.args.hexadecimal)) e) c.digits.invariant.small
