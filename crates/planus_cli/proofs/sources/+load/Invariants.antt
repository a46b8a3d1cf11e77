use Rattle.std.proofs.Common.{◌≡◌, ◌+◌, ◌*◌, ℕ, List, drop}
use Rattle.std.specs.Prelude.{Option}
use Rattle.std.specs.Io.KnownBytes.{Keeps}
use Rattle.planus_cli.specs.Files.{AreRead}
use Rattle.planus_cli.specs.Loading.{places_of, enter, Includes, IncludesAll}
use Rattle.planus_cli.specs.declared.sources.Sources.{Sources}
use Rattle.planus_cli.proofs.sources.+load.Given as goal

-- fewer files are left at each include
abbrev pub decreases-load : goal.decreases-load
decreases-load g l = 4 * l.left + 3

abbrev pub decreases-load_file : goal.decreases-load_file
decreases-load_file g l = 4 * l.left + 2

abbrev pub decreases-load_includes : goal.decreases-load_includes
decreases-load_includes g l = 4 * l.left + 1

abbrev pub decreases-include : goal.decreases-include
decreases-include g l = 4 * l.left

abbrev pub invariant-load_includes-declarations : goal.invariant-load_includes-declarations
invariant-load_includes-declarations g l =
    let places = places_of (g.F.Files.disk l.files) l.folders in
    let Include = Includes places (enter places l.left) l.source.file in
    record {
      read : AreRead (g.F.Files.disk l.files).Holds l.sources.files.items l.sources.declarations.items;
      kept : l.worst ≡ 0 → Keeps (g.X.Write.contents l.initial.errors) (g.X.Write.contents l.errors);
      loads : (status : ℕ) (new : Sources) (said : Option (List ℕ))
          → IncludesAll Include (drop l.declaration-index l.source.declarations.items) l.worst l.sources (g.X.Write.contents l.errors) status new said
          → IncludesAll Include l.source.declarations.items 0 l.initial.sources (g.X.Write.contents l.initial.errors) status new said;
    }
