use Rattle.std.proofs.Common.{◌≡◌, ◌+◌, ◌*◌, ◌≤◌, length, take}
use Rattle.std.specs.List.{AllByRecursion}
use Rattle.planus_read.specs.Clauses.{AllHold}
use Rattle.planus_read.specs.Slices.{slice_bytes}
use Rattle.planus_read.specs.Stands.{ItemsStand}
use Rattle.planus_read.specs.Arrays.{item_clauses}
use Rattle.planus_read.proofs.arrays.read_array.Given as goal

abbrev pub invariant-loop-i : goal.invariant-loop-i
invariant-loop-i g l =
    let shape = g.T.Plain.shape in let S = slice_bytes l.buffer in
    (length l.items ≡ g.row.N)
    × (1 ≤ l.i)
    × (l.place + g.T.Plain.SIZE ≡ l.offset + l.i * g.T.Plain.SIZE)
    × ItemsStand (λ p x. shape.There S p x) l.offset g.T.Plain.SIZE (take l.i l.items)
    × AllByRecursion (λ x. shape.fits x) (take l.i l.items)
    × AllHold (item_clauses shape l.i S l.offset)
