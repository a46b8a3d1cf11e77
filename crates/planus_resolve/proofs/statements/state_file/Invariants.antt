use Rattle.std.proofs.Common.{◌≡◌, ◌≤◌, ◌++◌, [], length, map, drop}
use Rattle.std.specs.Prelude.{None}
use Rattle.planus_syntax.specs.Values.{declarations_of}
use Rattle.planus_resolve.specs.Faults.{first_twenty, statement_faults}
use Rattle.planus_resolve.specs.Names.{head_of, path_in, begun_in}
use Rattle.planus_resolve.specs.Schemas.{said_of, after_file, IsFour}
use Rattle.planus_resolve.proofs.statements.state_file.Given as goal

abbrev pub invariant-declarations : goal.invariant-declarations
invariant-declarations l = record {
  begun : begun_in l.begun (declarations_of (drop l.declaration-index l.declarations))
      ≡ begun_in l.fn.begun (declarations_of l.declarations);
  said : l.faults.items ≡ [] → after_file (map head_of l.heads) l.begun (path_in l.space) (said_of l.statements)
      (declarations_of (drop l.declaration-index l.declarations))
      ≡ after_file (map head_of l.heads) l.fn.begun None (said_of l.fn.statements) (declarations_of l.declarations);
  four : l.faults.items ≡ [] → IsFour (said_of l.fn.statements).identifier
      → IsFour (said_of l.statements).identifier;
  kept : l.faults.items ≡ [] → l.fn.faults.items ≡ [];
  most : length l.faults.items ≤ 20;
  adds : first_twenty (l.faults.items ++ statement_faults (map head_of l.heads) l.known
      l.file l.begun (path_in l.space) (drop l.declaration-index l.declarations))
      ≡ first_twenty (l.fn.faults.items ++ statement_faults (map head_of l.heads) l.known
      l.file l.fn.begun None l.declarations);
}
