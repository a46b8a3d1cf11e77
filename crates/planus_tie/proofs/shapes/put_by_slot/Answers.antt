use Rattle.std.proofs.Common.{rules}
use Rattle.std.proofs.lemmas.List.Sorted.{IsNonDecreasingBy-from_sort_by_key}
use Rattle.planus_tie.proofs.shapes.put_by_slot.Goals as goal

pub returns-clause-rises : goal.returns-clause-rises
returns-clause-rises c =
    IsNonDecreasingBy-from_sort_by_key (λ l. l.field.now.slot) _
    c.in_ok-sort_by_key.ensures.sorted (λ a r q h. search rules)
