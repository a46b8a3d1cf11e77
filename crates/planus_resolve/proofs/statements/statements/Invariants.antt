use Rattle.std.proofs.Common.{◌≡◌, ◌≤◌, ◌++◌, [], length, map, drop}
use Rattle.planus_syntax.specs.Values.{declarations_of}
use Rattle.planus_resolve.specs.WrongServices.{known_attributes}
use Rattle.planus_resolve.specs.Faults.{first_twenty, file_faults}
use Rattle.planus_resolve.specs.Names.{head_of}
use Rattle.planus_resolve.specs.Schemas.{said_of, after_files, no_statements, IsFour}
use Rattle.planus_resolve.proofs.statements.statements.Given as goal

abbrev pub invariant-files : goal.invariant-files
invariant-files l = record {
  index : l.file ≡ l.declarations-index;
  said : l.faults.items ≡ [] → after_files (map head_of l.heads) l.begun (said_of l.statements)
      (map (λ f. declarations_of f.items) (drop l.declarations-index l.files))
      ≡ after_files (map head_of l.heads) 0 no_statements (map (λ f. declarations_of f.items) l.files);
  four : l.faults.items ≡ [] → IsFour (said_of l.statements).identifier;
  kept : l.faults.items ≡ [] → l.fn.faults.items ≡ [];
  most : length l.faults.items ≤ 20;
  adds : first_twenty (l.faults.items ++ file_faults (map head_of l.heads) (known_attributes l.files)
      l.file l.begun (drop l.declarations-index l.files))
      ≡ first_twenty (l.fn.faults.items ++ file_faults (map head_of l.heads) (known_attributes l.files) 0 0 l.files);
}
