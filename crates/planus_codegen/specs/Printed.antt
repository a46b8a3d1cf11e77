-- Printed code that is its schema's.
use Rattle.std.specs.Prelude.{◌≡◌, Bool, true, List, length, map}
use Rattle.planus_schema.specs.declared.schema.Declared.{Declared}
use Rattle.planus_schema.specs.declared.schema.Schema.{Schema}
use Rattle.planus_schema.specs.Names.{are_names, are_scopes}
use Rattle.planus_schema.specs.Spelling.{all_member_names, names_in}
use Rattle.planus_tie.specs.Files.{AreTied}
use Rattle.planus_tie.specs.declared.files.PrintedFile.{PrintedFile}
use Rattle.planus_tie.specs.declared.naming.Naming.{Naming}
use Rattle.planus_codegen.specs.Known.{module_names, type_names}
use Rattle.planus_codegen.specs.declared.names.Names.{Names}

-- a name for each declaration and each of its members, which are its words, no two alike
pub record AreFit (ds : List Declared) (n : Names) : Type 0 where
  pub types : length n.types.items ≡ length ds
  pub modules : length n.modules.items ≡ length ds
  pub members : length n.members.items ≡ length ds
  pub types_are_names : are_names n.types.items ≡ true
  pub modules_are_names : are_names n.modules.items ≡ true
  pub members_are_names : are_scopes n.members.items ≡ true
  pub types_named : names_in n.types ≡ type_names ds
  pub modules_named : names_in n.modules ≡ module_names ds
  pub members_named : map names_in n.members.items ≡ all_member_names ds

pub record IsNamingOf (ds : List Declared) (names : Names) (n : Naming) : Type 0 where
  pub declared : n.declared.now ≡ ds
  pub types : n.types.now ≡ names.types.items
  pub modules : n.modules.now ≡ names.modules.items
  pub members : n.members.now ≡ names.members.items

-- With names that are fit, the files have the code of each declaration, and where verified reading
-- is printed, that of each table's verified view, and the schema as a value; and the root and the file
-- identifier, or none.
pub record IsPrinted (verified : Bool) (schema : Schema) (files : List PrintedFile) : Type 0 where
  pub names : Names
  pub naming : Naming
  pub fit : AreFit schema.declarations.items names
  pub named : IsNamingOf schema.declarations.items names naming
  pub tied : AreTied verified schema.statements naming files
