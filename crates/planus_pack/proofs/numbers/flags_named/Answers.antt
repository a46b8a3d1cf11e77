use Rattle.std.proofs.Common.{ap, lit<, ◌∙◌}
use Rattle.std.specs.Prelude.{fold, Some}
use Rattle.std.specs.Str.Iter.{split_text, split_has_more, split_pattern}
use Rattle.std.proofs.lemmas.Iterator.Consumers.{YieldsList-end}
use Rattle.std.proofs.lemmas.Iterator.Splits.{YieldsList-from_str_split}
use Rattle.planus_pack.specs.Numbers.{with_flag, some_flags}
use Rattle.planus_pack.proofs.numbers.flags_named.Goals as goal

pub returns : goal.returns
returns c =
    let split = c.split-name-items.ensures in
    let same = c.into_iter-name-iterator.ensures.into_iter_gives in
    let yields = YieldsList-from_str_split {s = c.into_iter-name-iterator.result} 32 c.args.text.now (lit< tt) (ap split_text same ∙ split.text)
    (ap split_has_more same ∙ split.has_more) (ap split_pattern same ∙ split.pattern) in
    let end = YieldsList-end yields c.names.yielded _ c.names.yielded_by _ _ c.in-None.is c.next.ensures.steps in
    c.some_flags.ensures ∙ ap some_flags (c.names.invariant ∙ ap (λ names. fold (with_flag c.args.values.now) (Some 0) names) end.0)
