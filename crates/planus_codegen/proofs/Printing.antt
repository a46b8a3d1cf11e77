-- Files that pass their test.
use Rattle.std.proofs.Common.{◌≡◌, Bool, IsTrue, List, subst}
use Rattle.planus_schema.specs.declared.schema.Declared.{Declared}
use Rattle.planus_schema.specs.declared.schema.Schema.{Schema}
use Rattle.planus_tie.specs.Files.{AreTied}
use Rattle.planus_tie.specs.declared.files.PrintedFile.{PrintedFile}
use Rattle.planus_tie.specs.declared.naming.Naming.{Naming}
use Rattle.planus_codegen.specs.Printed.{AreFit, IsNamingOf, IsPrinted}
use Rattle.planus_codegen.specs.declared.names.Names.{Names}

pub printed_by : (verified : Bool) (schema : Schema) (inside : List Declared) (names : Names) (naming : Naming) (files items : List PrintedFile) (b : Bool) → inside ≡ schema.declarations.items → AreFit schema.declarations.items names → IsNamingOf inside names naming → items ≡ files → IsTrue b → (IsTrue b → AreTied verified schema.statements naming items) → IsPrinted verified schema files
printed_by verified schema inside names naming files items b e f n i h t = record {
  names = names;
  naming = naming;
  fit = f;
  named = subst (λ xs. IsNamingOf xs names naming) e n;
  tied = subst (λ xs. AreTied verified schema.statements naming xs) i (t h);
}
