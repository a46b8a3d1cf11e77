use Rattle.std.proofs.Common.{rules, is_lt}
use Rattle.std.proofs.lemmas.Result.{on_ok_weaker}
use Rattle.std.proofs.lemmas.List.Sorted.{ranks_by}
use Rattle.std.proofs.lemmas.Fn.{always_returns_same}
use Rattle.planus_keys.proofs.sorted.sort.Goals as goal

pub returns-clause-sorted : goal.returns-clause-sorted
returns-clause-sorted g c =
    on_ok_weaker c.sort_by.result
    (λ sorted. sorted (λ a b. is_lt (g.K.Ord.cmp a.0 b.0)) (ranks_by g.met.K.Ord.total (λ one. one.0))
    (always_returns_same _ _ _ (λ a r f k. search rules)))
    c.sort_by.ensures.sorted

pub returns-clause-stable : goal.returns-clause-stable
returns-clause-stable g c =
    c.sort_by.ensures.stable (λ a b. is_lt (g.K.Ord.cmp a.0 b.0))
    (ranks_by g.met.K.Ord.total (λ one. one.0))
    (always_returns_same _ _ _ (λ a r f k. search rules))
