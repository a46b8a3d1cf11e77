use Rattle.std.proofs.Common.{◌≡◌, ◌≤◌, ◌++◌, [], length, map, take, drop}
use Rattle.planus_resolve.specs.Names.{head_of}
use Rattle.planus_schema.specs.Distinct.{AreDistinct}
use Rattle.planus_resolve.specs.Faults.{first_twenty, placed_of, name_faults}
use Rattle.planus_resolve.proofs.meaning.check_names.Given as goal

abbrev pub invariant-heads : goal.invariant-heads
invariant-heads l = record {
  index : l.index ≡ l.head-index;
  distinct : l.faults.items ≡ [] → AreDistinct (map (λ h. h.name) (map head_of (take l.head-index l.heads)));
  kept : l.faults.items ≡ [] → l.fn.faults.items ≡ [];
  most : length l.faults.items ≤ 20;
  adds : first_twenty (l.faults.items ++ name_faults (map head_of l.heads) l.index
      (map placed_of (drop l.head-index l.heads)))
      ≡ first_twenty (l.fn.faults.items ++ name_faults (map head_of l.heads) 0 (map placed_of l.heads));
}
