-- The files of a printed crate.
use Rattle.std.specs.Prelude.{◌≡◌, ℕ, ◌+◌, Bool, ◌||◌, IsTrue, ⊤, not, is_none, List, [], ◌∷◌, ◌++◌, fold}
use Rattle.std.specs.Prelude.{codes, Option, Some, None, if◌then◌else◌}
use Rattle.std.specs.Bool.{MatchBool}
use Rattle.std.specs.List.{list_any}
use Rattle.std.specs.Option.{option_map}
use Rattle.std.specs.Str.{bytes_eq}
use Rattle.std.specs.String.{string_bytes}
use Rattle.planus_schema.specs.declared.schema.Body.{Body}
use Rattle.planus_schema.specs.declared.schema.Body.TheVariants as body
use Rattle.planus_schema.specs.declared.schema.Declared.{Declared}
use Rattle.planus_schema.specs.declared.schema.Statements.{Statements}
use Rattle.planus_schema.specs.declared.schema.Table.{Table}
use Rattle.planus_tie.specs.Enums.{IsEnumTied}
use Rattle.planus_tie.specs.Flags.{IsFlagsTied}
use Rattle.planus_tie.specs.Ranks.{is_table, is_union_body, ranks_of, totals_of}
use Rattle.planus_tie.specs.Roots.{IsRootTied, IsIdentifierTied}
use Rattle.planus_tie.specs.SchemaTies.{IsSchemaTied}
use Rattle.planus_tie.specs.Structs.{IsStructTied}
use Rattle.planus_tie.specs.Ties.{IsTableTied}
use Rattle.planus_tie.specs.UnionViews.{IsUnionViewTied}
use Rattle.planus_tie.specs.Unions.{IsUnionTied}
use Rattle.planus_tie.specs.Views.{IsViewTied}
use Rattle.planus_tie.specs.Wanted.{module_of}
use Rattle.planus_tie.specs.declared.files.PrintedFile.{PrintedFile}
use Rattle.planus_tie.specs.declared.naming.Naming.{Naming}

abbrev pub path_of : Naming → ℕ → List ℕ
path_of n i = codes "src/" ++ (module_of n i ++ codes ".rt")

abbrev pub newer : List ℕ → Option (List ℕ) → PrintedFile → Option (List ℕ)
newer path found f = if bytes_eq (string_bytes f.path) path then Some (string_bytes f.text)
    else found

-- the text of the last file of this path
abbrev pub text_at : List ℕ → List PrintedFile → Option (List ℕ)
text_at path files = fold (newer path) None files

-- a text is that of a declaration
abbrev pub IsTextTied : Naming → ℕ → Body → List ℕ → Type 0
IsTextTied n i (body.Table one) text = IsTableTied n i one text
IsTextTied n i (body.Enum one) text =
    MatchBool one.flags (IsFlagsTied n i one text) (IsEnumTied n i one text)
IsTextTied n i (body.Union one) text = IsUnionTied n i one text
IsTextTied n i (body.Struct one) text = IsStructTied n i one text

abbrev pub IsFileTied : Naming → ℕ → Body → Option (List ℕ) → Type 0
IsFileTied n i b None = ⊥
IsFileTied n i b (Some text) = IsTextTied n i b text

-- a declaration's file is there, and is the declaration's
abbrev pub IsBodyTied : Naming → List PrintedFile → ℕ → Body → Type 0
IsBodyTied n files i b = IsFileTied n i b (text_at (path_of n i) files)

-- of each declaration from an index on
abbrev pub AreDeclaredTied : Naming → List PrintedFile → ℕ → List Declared → Type 0
AreDeclaredTied n files i [] = ⊤
AreDeclaredTied n files i (d ∷ ds) =
    IsBodyTied n files i d.body × AreDeclaredTied n files (i + 1) ds

abbrev pub view_path_of : Naming → ℕ → List ℕ
view_path_of n i = codes "src/verified/" ++ (module_of n i ++ codes ".rt")

-- a text is that of the view of a table or of a union
abbrev pub IsTextViewTied : Naming → List ℕ → List Bool → ℕ → Body → List ℕ → Type 0
IsTextViewTied n ranks totals i (body.Table one) text = IsViewTied n ranks totals i one text
IsTextViewTied n ranks totals i (body.Union one) text = IsUnionViewTied n ranks i one text
IsTextViewTied n ranks totals i b text = ⊤

abbrev pub IsViewTextTied : Naming → List ℕ → List Bool → ℕ → Body → Option (List ℕ) → Type 0
IsViewTextTied n ranks totals i b None = ⊥
IsViewTextTied n ranks totals i b (Some text) = IsTextViewTied n ranks totals i b text

abbrev pub has_view : Body → Bool
has_view b = is_table b || is_union_body b

-- the view of a table or of a union is there, and is the declaration's
unfoldable pub IsBodyViewTied : Naming → List ℕ → List Bool → List PrintedFile → ℕ → Body → Type 0
IsBodyViewTied n ranks totals files i b = MatchBool (has_view b)
    (IsViewTextTied n ranks totals i b (text_at (view_path_of n i) files)) ⊤

-- of each declaration from an index on
abbrev pub AreViewsTied : Naming → List ℕ → List Bool → List PrintedFile → ℕ → List Declared
    → Type 0
AreViewsTied n ranks totals files i [] = ⊤
AreViewsTied n ranks totals files i (d ∷ ds) = IsBodyViewTied n ranks totals files i d.body
    × AreViewsTied n ranks totals files (i + 1) ds

abbrev pub IsSchemaTextTied : Naming → List ℕ → Option (List ℕ) → Type 0
IsSchemaTextTied n ranks None = ⊥
IsSchemaTextTied n ranks (Some text) = IsSchemaTied n ranks text

abbrev pub has_tables : List Declared → Bool
has_tables ds = list_any (λ d. is_table d.body) ds

-- where there are tables, the schema's value is there
abbrev pub HasSchema : Naming → List ℕ → List PrintedFile → Type 0
HasSchema n ranks files = IsTrue (has_tables n.declared.now)
    → IsSchemaTextTied n ranks (text_at (codes "src/verified.rt") files)

-- the file of each view, and the schema's value
abbrev pub AreVerifiedTied : Naming → List PrintedFile → Type 0
AreVerifiedTied n files =
    AreViewsTied n (ranks_of n.declared.now) (totals_of n.declared.now) files 0 n.declared.now
    × HasSchema n (ranks_of n.declared.now) files

-- the bytes of a file identifier, where there is one
abbrev pub identifier_of : Statements → Option (List ℕ)
identifier_of said = option_map (λ bytes. bytes.items) said.identifier

abbrev pub has_identifier : Statements → Bool
has_identifier said = not (is_none said.identifier)

abbrev pub IsRootTextTied : Bool → Bool → Naming → ℕ → Option (List ℕ) → Type 0
IsRootTextTied verified identified n i None = ⊥
IsRootTextTied verified identified n i (Some text) = IsRootTied verified identified n i text

-- The file of a root is there, and is the root's, or there is none.
abbrev pub IsRootFileTied : Bool → Bool → Naming → Option ℕ → Option (List ℕ) → Type 0
IsRootFileTied verified identified n None found = found ≡ None
IsRootFileTied verified identified n (Some i) found = IsRootTextTied verified identified n i found

-- The crate's own file is there, and has the constant of the identifier, or none.
abbrev pub IsLibraryTied : Option (List ℕ) → Option (List ℕ) → Type 0
IsLibraryTied identifier None = ⊥
IsLibraryTied identifier (Some text) = IsIdentifierTied identifier text

-- Each declaration has its file, and where verified reading is printed, each table and each union has
-- that of its view, and there is the schema's value. There are the root and the identifier of the
-- last statements.
pub record AreTied (verified : Bool) (said : Statements) (n : Naming) (files : List PrintedFile)
    : Type 0
  where
    pub declared : AreDeclaredTied n files 0 n.declared.now
    pub root : IsRootFileTied verified (has_identifier said) n said.root
        (text_at (codes "src/root.rt") files)
    pub library : IsLibraryTied (identifier_of said) (text_at (codes "src/lib.rt") files)
    pub views : IsTrue verified → AreVerifiedTied n files
