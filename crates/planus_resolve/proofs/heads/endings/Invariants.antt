use Rattle.std.proofs.Common.{◌≡◌, ◌≤◌, ℕ, List, length, map, drop}
use Rattle.std.specs.List.{position_from}
use Rattle.planus_resolve.specs.Names.{head_of}
use Rattle.planus_resolve.specs.Uses.{ends_with}
use Rattle.planus_resolve.specs.inner.Index.{index_at}
use Rattle.planus_resolve.proofs.heads.endings.Given as goal

abbrev pub invariant-heads : goal.invariant-heads
invariant-heads l = record {
  within : l.index ≤ length l.list;
  first : (name : List ℕ) → index_at l.first name
      ≡ position_from (ends_with name) l.index (map head_of (drop l.index l.list));
}

abbrev pub decreases-heads : goal.decreases-heads
decreases-heads l = l.index
