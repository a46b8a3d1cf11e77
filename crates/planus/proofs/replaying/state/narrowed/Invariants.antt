use Rattle.std.proofs.Common.{◌≡◌, map, take, true}
use Rattle.std.specs.List.{list_all}
use Rattle.planus.specs.Runs.{fits_width}
use Rattle.planus.proofs.replaying.state.narrowed.Given as goal

abbrev pub invariant-loop-item : goal.invariant-loop-item
invariant-loop-item g l =
    (list_all (fits_width g.T.Narrow.width) (take l.item-index l.items) ≡ true)
    × (map g.T.Narrow.number l.numbers.items ≡ take l.item-index l.items)
