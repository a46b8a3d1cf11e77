use Rattle.std.proofs.Common.{[], ap, lit<, ◌∙◌}
use Rattle.std.specs.Prelude.{fold}
use Rattle.std.specs.Str.Iter.{split_text, split_has_more, split_pattern}
use Rattle.std.proofs.lemmas.Iterator.Consumers.{YieldsList-end}
use Rattle.std.proofs.lemmas.Iterator.Splits.{YieldsList-from_str_split}
use Rattle.planus_cli.specs.Including.{entered}
use Rattle.planus_cli.proofs.include.walk.Goals as goal

pub returns : goal.returns
returns c =
    let split = c.split-segment-items.ensures in
    let same = c.into_iter-segment-iterator.ensures.into_iter_gives in
    let yields = YieldsList-from_str_split {s = c.into_iter-segment-iterator.result} 47 c.args.path.now (lit< tt) (ap split_text same ∙ split.text)
    (ap split_has_more same ∙ split.has_more) (ap split_pattern same ∙ split.pattern) in
    let end = YieldsList-end yields c.path.yielded _ c.path.yielded_by _ _ c.in-None.is c.next.ensures.steps in
    c.path.invariant ∙ ap (λ segments. fold entered [] segments) end.0
