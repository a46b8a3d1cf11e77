use Rattle.std.proofs.Common.{◌≡◌}
use Rattle.std.specs.Option.{option_copied}
use Rattle.planus_script.specs.Asking.{AsksForItems}
use Rattle.planus_script.specs.Words.{items_of, words_behind}
use Rattle.planus_script.proofs.Lists.{items_before}
use Rattle.planus_script.proofs.ReadOn.{size_left}
use Rattle.planus_script.proofs.script.items.Given as goal

abbrev pub invariant-loop-rest : goal.invariant-loop-rest
invariant-loop-rest g l = record {
  read : items_before l.items.items (items_of g.T.FromWord.said (words_behind (option_copied l.rest))) ≡ items_of g.T.FromWord.said (words_behind (option_copied l.words));
  asks : AsksForItems g.T.FromWord.said (words_behind (option_copied l.rest)) → AsksForItems g.T.FromWord.said (words_behind (option_copied l.words));
}

abbrev pub decreases-loop-rest : goal.decreases-loop-rest
decreases-loop-rest g l = size_left l.rest
