use Rattle.std.proofs.Common.{List, ℕ, map, drop}
use Rattle.std.specs.Prelude.{Option}
use Rattle.planus_cli.specs.Including.{IsFirstThere, file_in, tried}
use Rattle.planus_cli.proofs.sources.included.Given as goal

abbrev pub invariant-folders : goal.invariant-folders
invariant-folders g l = (found : Option (List ℕ))
    → IsFirstThere (g.F.Files.disk l.files).There (map (λ folder. file_in folder l.path) (map (λ f. f.now) (drop l.folder-index l.folders))) found
    → IsFirstThere (g.F.Files.disk l.files).There (tried (map (λ f. f.now) l.folders) l.name l.path) found
