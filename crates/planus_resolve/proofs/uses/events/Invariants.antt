use Rattle.std.proofs.Common.{◌≡◌, ◌++◌, map, drop}
use Rattle.planus_resolve.specs.Uses.{event_of, files_used}
use Rattle.planus_resolve.proofs.uses.events.Given as goal

abbrev pub invariant-files : goal.invariant-files
invariant-files l = record {
  index : l.file ≡ l.declarations-index;
  out : map event_of l.out.items ++ files_used l.file (drop l.declarations-index l.files)
      ≡ files_used 0 l.files;
}
