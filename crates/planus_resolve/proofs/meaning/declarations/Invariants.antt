use Rattle.std.proofs.Common.{◌≡◌, ◌≤◌, ◌++◌, [], length, map, take, drop}
use Rattle.planus_resolve.specs.Names.{head_of}
use Rattle.planus_resolve.specs.Schemas.{AreDeclared}
use Rattle.planus_resolve.specs.WrongStructs.{measures_of}
use Rattle.planus_resolve.specs.Faults.{first_twenty, placed_of, body_faults}
use Rattle.planus_resolve.proofs.meaning.declarations.Given as goal

abbrev pub invariant-heads : goal.invariant-heads
invariant-heads l = record {
  says : l.faults.items ≡ [] → AreDeclared (map head_of l.heads)
      (map head_of (take l.head-index l.heads)) l.declared.items;
  kept : l.faults.items ≡ [] → l.fn.faults.items ≡ [];
  most : length l.faults.items ≤ 20;
  adds : first_twenty (l.faults.items ++ body_faults (map head_of l.heads) (measures_of l.declared.items)
      (map placed_of (drop l.head-index l.heads)))
      ≡ first_twenty (l.fn.faults.items ++ body_faults (map head_of l.heads) [] (map placed_of l.heads));
}
