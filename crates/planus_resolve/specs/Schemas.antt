-- What a schema is, and how it follows from the declarations.
use Rattle.std.specs.Prelude.{◌≡◌, ℕ, ◌+◌, ◌<◌, ◌≤◌, List, [], ◌∷◌, ◌++◌, length, map}
use Rattle.std.specs.Prelude.{Option, Some, None}
use Rattle.std.specs.Option.{option_map}
use Rattle.planus_syntax.specs.Values.{PathV, ItemV, include, namespace, attribute, table}
use Rattle.planus_syntax.specs.Values.{native_include}
use Rattle.planus_syntax.specs.Values.{struct, enumeration, union, service, root, identifier}
use Rattle.planus_syntax.specs.Values.{extension, DeclarationV, names_of}
use Rattle.planus_syntax.specs.Strings.{string_text}
use Rattle.planus_schema.specs.declared.schema.Body.{Body}
use Rattle.planus_schema.specs.declared.schema.Body.TheVariants as body
use Rattle.planus_schema.specs.declared.schema.Declared.{Declared}
use Rattle.planus_schema.specs.declared.schema.Statements.{Statements}
use Rattle.planus_resolve.specs.declared.fault.Fault.{Fault}
use Rattle.planus_resolve.specs.declared.fault.ResolveError.{ResolveError}
use Rattle.planus_resolve.specs.declared.fault.ResolveError.TheVariants as error
use Rattle.planus_schema.specs.declared.schema.Schema.{Schema}
use Rattle.planus_resolve.specs.Names.{HeadV, SpaceV, heads_of, words_in, space_after, base_as}
use Rattle.planus_resolve.specs.Names.{space_at, begun_after, begun_in}
use Rattle.planus_resolve.specs.Names.{table_in}
use Rattle.planus_resolve.specs.Names.{as_root}
use Rattle.planus_schema.specs.Distinct.{AreDistinct, Each2}
use Rattle.planus_resolve.specs.Enums.{IsEnum, SaysEnum, integer_at}
use Rattle.planus_schema.specs.Layouts.{IsStruct, body_in}
use Rattle.planus_resolve.specs.Structs.{SaysStruct}
use Rattle.planus_resolve.specs.Unions.{IsUnion, SaysUnion}
use Rattle.planus_resolve.specs.Tables.{IsTableBody, SaysTable}

-- ---- declarations

abbrev pub IsBody : Body → Type 0
IsBody (body.Table t) = IsTableBody t
IsBody (body.Struct s) = IsStruct s
IsBody (body.Enum e) = IsEnum e
IsBody (body.Union u) = IsUnion u

-- the meaning of a declaration; enums and structs in a struct are among those before it
abbrev pub SaysBody : List HeadV → SpaceV → List Body → ItemV → Body → Type 0
SaysBody hs space before (table r) (body.Table t) = SaysTable hs space r t
SaysBody hs space before (struct r) (body.Struct s) = SaysStruct hs space before r s
SaysBody hs space before (enumeration e) (body.Enum t) =
    SaysEnum (integer_at hs (length before)) e t
SaysBody hs space before (union u) (body.Union t) = SaysUnion hs space u t
SaysBody hs space before i b = ⊥

abbrev pub SayBodies : List HeadV → List Body → List HeadV → List Body → Type 0
SayBodies hs before [] [] = Unit {0}
SayBodies hs before [] (b ∷ bs) = ⊥
SayBodies hs before (h ∷ rest) [] = ⊥
SayBodies hs before (h ∷ rest) (b ∷ bs) = IsBody b
    × SaysBody hs (space_at h.space (length before + 1)) before h.declaration.item b × SayBodies hs (before ++ b ∷ []) rest bs

-- ---- statements

pub record StatementsV : Type 0 where
  pub root : Option (Option ℕ)
  pub identifier : Option (List ℕ)
  pub extension : Option (List ℕ)

abbrev pub no_statements : StatementsV
no_statements = record { root = None; identifier = None; extension = None }

-- a statement replaces an earlier one
abbrev pub after : List HeadV → SpaceV → StatementsV → ItemV → StatementsV
after hs space s (include w) = s
after hs space s (native_include w) = s
after hs space s (namespace p) = s
after hs space s (attribute l) = s
after hs space s (table r) = s
after hs space s (struct r) = s
after hs space s (enumeration e) = s
after hs space s (union u) = s
after hs space s (service x) = s
after hs space s (root p) = record s { root = Some (table_in (base_as hs as_root space p)) }
after hs space s (identifier w) = record s { identifier = Some (string_text w) }
after hs space s (extension w) = record s { extension = Some (string_text w) }

-- after `n` declarations
abbrev pub after_file : List HeadV → ℕ → Option PathV → StatementsV → List DeclarationV
    → StatementsV
after_file hs n space s [] = s
after_file hs n space s (d ∷ ds) = after_file hs (begun_after n d.item) (space_after space d.item)
    (after hs (space_at (words_in space) n) s d.item) ds

-- the statements of the last file, which includes the others
abbrev pub after_files : List HeadV → ℕ → StatementsV → List (List DeclarationV) → StatementsV
after_files hs n s [] = s
after_files hs n s (ds ∷ files) =
    after_files hs (begun_in n ds) (after_file hs n None no_statements ds) files

-- ---- schemas

pub record IsHeadOf (h : HeadV) (d : Declared) : Type 0 where
  pub name : d.name.items ≡ h.name
  pub docs : names_of d.docs.items ≡ h.declaration.docs
  pub file : d.file ≡ h.file

pub record IsAppended (h : HeadV) (b : Body) (old new : List Declared) : Type 0 where
  pub last : Declared
  pub added : new ≡ old ++ last ∷ []
  pub head : IsHeadOf h last
  pub body : last.body ≡ b

-- one more declaration
pub record IsDeclared (hs : List HeadV) (h : HeadV) (old new : List Declared) : Type 0 where
  pub last : Declared
  pub added : new ≡ old ++ last ∷ []
  pub head : IsHeadOf h last
  pub sound : IsBody last.body
  pub says : SaysBody hs (space_at h.space (length old + 1)) (map body_in old) h.declaration.item
      last.body

-- these are declared, in this order
pub record AreDeclared (hs : List HeadV) (some : List HeadV) (ds : List Declared) : Type 0 where
  pub heads : Each2 IsHeadOf some ds
  pub bodies : SayBodies hs [] some (map body_in ds)

-- a root is always a table
abbrev pub said_of : Statements → StatementsV
said_of s = record {
  root = option_map Some s.root;
  identifier = option_map (λ w. w.items) s.identifier;
  extension = option_map (λ w. w.items) s.extension;
}

abbrev pub IsFour : Option (List ℕ) → Type 0
IsFour None = Unit {0}
IsFour (Some w) = length w ≡ 4

-- the meaning of these files: each declaration in order, under a unique name
pub record Means (files : List (List DeclarationV)) (s : Schema) : Type 0 where
  pub declared : AreDeclared (heads_of files) (heads_of files) s.declarations.items
  pub names : AreDistinct (map (λ h. h.name) (heads_of files))
  pub statements : said_of s.statements ≡ after_files (heads_of files) 0 no_statements files
  pub four : IsFour (said_of s.statements).identifier

-- ---- faults

-- from one to twenty
pub record AreFaults (faults : List Fault) : Type 0 where
  pub some : 0 < length faults
  pub most : length faults ≤ 20

abbrev pub HoldsFaults : ResolveError → Type 0
HoldsFaults error.OutOfMemory = Unit {0}
HoldsFaults (error.Faults v) = AreFaults v.items
