use Rattle.std.proofs.Common.{◌≡◌, ◌++◌, map, drop}
use Rattle.planus_syntax.specs.Values.{declarations_of}
use Rattle.planus_resolve.specs.Names.{head_of, heads_from, heads_of}
use Rattle.planus_resolve.specs.Faults.{placed_of, placed_from}
use Rattle.planus_resolve.proofs.head.heads.Given as goal

abbrev pub invariant-files : goal.invariant-files
invariant-files l = record {
  index : l.file ≡ l.declarations-index;
  all : map head_of l.heads.items
      ++ heads_from l.file (map (λ f. declarations_of f.items) (drop l.declarations-index l.files))
      ≡ heads_of (map (λ f. declarations_of f.items) l.files);
  placed : map placed_of l.heads.items ++ placed_from l.file (drop l.declarations-index l.files)
      ≡ placed_from 0 l.files;
}
