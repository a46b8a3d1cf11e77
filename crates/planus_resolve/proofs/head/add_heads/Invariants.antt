use Rattle.std.proofs.Common.{◌≡◌, ◌++◌, map, drop}
use Rattle.std.specs.Prelude.{None}
use Rattle.planus_syntax.specs.Values.{declarations_of}
use Rattle.planus_resolve.specs.Names.{path_in, head_of, heads_in}
use Rattle.planus_resolve.specs.Faults.{placed_of, placed_in}
use Rattle.planus_resolve.proofs.head.add_heads.Given as goal

abbrev pub invariant-declarations : goal.invariant-declarations
invariant-declarations l = record {
  heads : map head_of l.heads.items ++ heads_in l.file (path_in l.space)
      (declarations_of (drop l.declaration-index l.declarations))
      ≡ map head_of l.fn.heads.items ++ heads_in l.file None (declarations_of l.declarations);
  placed : map placed_of l.heads.items ++ placed_in l.file (path_in l.space)
      (drop l.declaration-index l.declarations)
      ≡ map placed_of l.fn.heads.items ++ placed_in l.file None l.declarations;
}
