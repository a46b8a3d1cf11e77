use Rattle.std.proofs.Common.{rules, ◌-◌}
use Rattle.std.proofs.lemmas.List.Sorted.{IsNonDecreasingBy-from_sort_by_key}
use Rattle.planus_schema.proofs.plan.put_in_order.Goals as goal

pub returns-clause-falls : goal.returns-clause-falls
returns-clause-falls c =
    IsNonDecreasingBy-from_sort_by_key (λ l. 18446744073709551615 - l.alignment) _
    c.in_ok-sort_by_key.ensures.sorted (λ a r q h. search rules)
