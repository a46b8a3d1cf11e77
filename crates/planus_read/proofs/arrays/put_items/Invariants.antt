use Rattle.std.proofs.Common.{◌≡◌, ◌*◌, ◌++◌, take, drop}
use Rattle.std.specs.List.{AllByRecursion}
use Rattle.planus_read.specs.Arrays.{all_encoded}
use Rattle.planus_read.proofs.arrays.put_items.Given as goal

abbrev pub invariant-loop-item : goal.invariant-loop-item
invariant-loop-item g l =
    (l.at ≡ l.item-index * g.T.Plain.SIZE)
    × (l.bytes ≡ all_encoded g.T.Plain.shape (take l.item-index l.items) ++ drop (l.item-index * g.T.Plain.SIZE) l.fn.bytes)
    × AllByRecursion (λ x. g.T.Plain.shape.fits x) (take l.item-index l.items)
