-- All faults of the files of a schema.
use Rattle.std.specs.Prelude.{◌≡◌, ℕ, ◌+◌, ◌-◌, ◌<◌, Bool, false, not, nat_eq, ◌==◌, List, [], ◌∷◌}
use Rattle.std.specs.Prelude.{◌++◌}
use Rattle.std.specs.Prelude.{length, map, take, Option, Some, None}
use Rattle.std.specs.List.{All}
use Rattle.std.specs.Global.{Vec}
use Rattle.std.specs.declared.cmp.Ordering.{Ordering}
use Rattle.std.specs.Ordering.{nat_cmp, ordering_then}
use Rattle.std.specs.List.Sorted.{IsPermutation, IsSortedByKey, IsStableByKey}
use Rattle.planus_syntax.specs.Values.{Name, PathV, item_of, declarations_of, declaration_of}
use Rattle.planus_syntax.specs.declared.value.Declaration.{Declaration}
use Rattle.planus_syntax.specs.declared.value.Item.{Item}
use Rattle.planus_syntax.specs.declared.value.Item.TheVariants as item
use Rattle.planus_syntax.specs.Strings.{string_text}
use Rattle.planus_schema.specs.declared.scalar.Scalar.{Scalar}
use Rattle.planus_schema.specs.declared.measure.Measure.{Measure}
use Rattle.planus_schema.specs.Numbers.{scalar_size}
use Rattle.planus_resolve.specs.declared.expected.Expected.TheVariants as expected
use Rattle.planus_resolve.specs.declared.fault.Fault.{Fault}
use Rattle.planus_resolve.specs.declared.fault.ResolveError.{ResolveError}
use Rattle.planus_resolve.specs.declared.fault.ResolveError.TheVariants as error
use Rattle.planus_resolve.specs.declared.fault.DeclarationError.{DeclarationError}
use Rattle.planus_resolve.specs.declared.fault.DeclarationError.TheVariants as declaration_error
use Rattle.planus_resolve.specs.declared.fault.FaultKind.TheVariants as fault
use Rattle.planus_resolve.specs.declared.head.Head.{Head}
use Rattle.planus_resolve.specs.Names.{HeadV, SpaceV, own_name, words_in, space_after, heads_of}
use Rattle.planus_resolve.specs.Names.{index_of, head_of, named_head, space_at, begun_after, begun_in}
use Rattle.planus_resolve.specs.Names.{as_root}
use Rattle.planus_resolve.specs.Enums.{integer_at}
use Rattle.planus_resolve.specs.Wrong.{Broken, broken, when, first, wrong_table}
use Rattle.planus_resolve.specs.WrongEnums.{wrong_enum}
use Rattle.planus_resolve.specs.WrongStructs.{wrong_struct, struct_measure}
use Rattle.planus_resolve.specs.WrongUnions.{wrong_union}
use Rattle.planus_resolve.specs.WrongTables.{wrong_table_body}
use Rattle.planus_resolve.specs.WrongServices.{wrong_item, known_attributes}
use Rattle.planus_resolve.specs.Uses.{taken_otherwise}

-- ---- one fault, in its file

abbrev pub fault_in : ℕ → Option Broken → List Fault
fault_in file None = []
fault_in file (Some b) = record { kind = b.kind; file = file; left = b.left } ∷ []

abbrev pub broken_in : DeclarationError → Option Broken
broken_in declaration_error.OutOfMemory = None
broken_in (declaration_error.Wrong p left) = broken p left

-- the first twenty, or all if there are fewer
unfoldable pub first_twenty : List Fault → List Fault
first_twenty fs = take 20 fs

-- new faults are stored while there are fewer than twenty
abbrev pub Adds : List Fault → List Fault → List Fault → Type 0
Adds found old new = new ≡ first_twenty (old ++ found)

-- ---- declarations, with their places

pub record Placed : Type 0 where
  pub head : HeadV
  pub tree : Declaration

abbrev pub placed_of : Head → Placed
placed_of h = record { head = head_of h; tree = h.declaration.now }

abbrev pub placed_head : Declaration → List HeadV → List Placed
placed_head d [] = []
placed_head d (h ∷ hs) = record { head = h; tree = d } ∷ placed_head d hs

abbrev pub placed_at : ℕ → Option PathV → Declaration → List Placed
placed_at file space d = placed_head d (named_head file (words_in space) (declaration_of d)
    (own_name (item_of d.item)))

abbrev pub placed_in : ℕ → Option PathV → List Declaration → List Placed
placed_in file space [] = []
placed_in file space (d ∷ ds) =
    placed_at file space d ++ placed_in file (space_after space (item_of d.item)) ds

-- the declarations of the files from the n-th on, in order
abbrev pub placed_from : ℕ → List (Vec Declaration) → List Placed
placed_from n [] = []
placed_from n (f ∷ fs) = placed_in n None f.items ++ placed_from (n + 1) fs

-- ---- names

abbrev pub is_index : Option ℕ → ℕ → Bool
is_index None n = false
is_index (Some m) n = nat_eq m n

-- a declaration's name is the word after its first word
abbrev pub name_left : Declaration → ℕ
name_left d = d.left - 1

abbrev pub name_fault : List HeadV → ℕ → Placed → List Fault
name_fault hs n p = fault_in p.head.file
    (when (not (is_index (index_of hs p.head.name) n)) fault.NameTaken (name_left p.tree))

abbrev pub name_faults : List HeadV → ℕ → List Placed → List Fault
name_faults hs n [] = []
name_faults hs n (p ∷ ps) = name_fault hs n p ++ name_faults hs (n + 1) ps

-- ---- declarations

-- an item that declares no type
abbrev pub no_type : ℕ → Option Broken
no_type left = broken (fault.UnknownType expected.AnyType) left

-- the fault of a declaration; `left` is the place of its name
abbrev pub wrong_body : List HeadV → SpaceV → List (Option Measure) → ℕ → Item → Option Broken
wrong_body hs space ms left (item.Include w) = no_type left
wrong_body hs space ms left (item.NativeInclude w) = no_type left
wrong_body hs space ms left (item.Namespace p) = no_type left
wrong_body hs space ms left (item.Attribute l) = no_type left
wrong_body hs space ms left (item.Table r) = wrong_table_body hs space r left
wrong_body hs space ms left (item.Struct r) = wrong_struct hs space ms r left
wrong_body hs space ms left (item.Enum e) = wrong_enum (integer_at hs (length ms)) e
wrong_body hs space ms left (item.Union u) = wrong_union hs space u
wrong_body hs space ms left (item.Service s) = no_type left
wrong_body hs space ms left (item.RootType p) = no_type left
wrong_body hs space ms left (item.FileIdentifier w) = no_type left
wrong_body hs space ms left (item.FileExtension w) = no_type left

abbrev pub scalar_measure : Option Scalar → Option Measure
scalar_measure None = None
scalar_measure (Some s) = Some (record { size = scalar_size s; alignment = scalar_size s })

-- the size of a declaration without a fault; one with a fault counts as a byte
abbrev pub sound_measure : List HeadV → SpaceV → List (Option Measure) → Item → Option Measure
sound_measure hs space ms (item.Include w) = None
sound_measure hs space ms (item.NativeInclude w) = None
sound_measure hs space ms (item.Namespace p) = None
sound_measure hs space ms (item.Attribute l) = None
sound_measure hs space ms (item.Table r) = None
sound_measure hs space ms (item.Struct r) = struct_measure hs space ms r
sound_measure hs space ms (item.Enum e) = scalar_measure (integer_at hs (length ms))
sound_measure hs space ms (item.Union u) = None
sound_measure hs space ms (item.Service s) = None
sound_measure hs space ms (item.RootType p) = None
sound_measure hs space ms (item.FileIdentifier w) = None
sound_measure hs space ms (item.FileExtension w) = None

abbrev pub byte_measure : Item → Option Measure
byte_measure (item.Include w) = None
byte_measure (item.NativeInclude w) = None
byte_measure (item.Namespace p) = None
byte_measure (item.Attribute l) = None
byte_measure (item.Table r) = None
byte_measure (item.Struct r) = Some (record { size = 1; alignment = 1 })
byte_measure (item.Enum e) = Some (record { size = 1; alignment = 1 })
byte_measure (item.Union u) = None
byte_measure (item.Service s) = None
byte_measure (item.RootType p) = None
byte_measure (item.FileIdentifier w) = None
byte_measure (item.FileExtension w) = None

abbrev pub measure_or_byte : Option Broken → Option Measure → Option Measure → Option Measure
measure_or_byte None m byte = m
measure_or_byte (Some b) m byte = byte

abbrev pub measure_placed : List HeadV → List (Option Measure) → Placed → Option Measure
measure_placed hs ms p =
    let space = space_at p.head.space (length ms + 1) in
    measure_or_byte (wrong_body hs space ms (name_left p.tree) p.tree.item)
    (sound_measure hs space ms p.tree.item) (byte_measure p.tree.item)

abbrev pub body_fault : List HeadV → List (Option Measure) → Placed → List Fault
body_fault hs ms p =
    fault_in p.head.file (wrong_body hs (space_at p.head.space (length ms + 1)) ms
    (name_left p.tree) p.tree.item)

abbrev pub body_faults : List HeadV → List (Option Measure) → List Placed → List Fault
body_faults hs ms [] = []
body_faults hs ms (p ∷ ps) =
    body_fault hs ms p ++ body_faults hs (ms ++ measure_placed hs ms p ∷ []) ps

-- ---- statements

abbrev pub wrong_statement : List HeadV → SpaceV → ℕ → Item → Option Broken
wrong_statement hs space left (item.Include w) = None
wrong_statement hs space left (item.NativeInclude w) = None
wrong_statement hs space left (item.Namespace p) = None
wrong_statement hs space left (item.Attribute l) = None
wrong_statement hs space left (item.Table r) = None
wrong_statement hs space left (item.Struct r) = None
wrong_statement hs space left (item.Enum e) = None
wrong_statement hs space left (item.Union u) = None
wrong_statement hs space left (item.Service s) = None
wrong_statement hs space left (item.RootType p) = wrong_table fault.RootIsNoTable hs as_root space p
wrong_statement hs space left (item.FileIdentifier w) =
    when (not (length (string_text w.items) == 4)) fault.WrongIdentifier left
wrong_statement hs space left (item.FileExtension w) = None

-- the fault of its attributes and methods, and then of its statement
abbrev pub wrong_said : List HeadV → SpaceV → List Name → Declaration → Option Broken
wrong_said hs space known d =
    first (wrong_item hs space known d.item) (wrong_statement hs space d.left d.item)

-- after `n` declarations
abbrev pub statement_faults : List HeadV → List Name → ℕ → ℕ → Option PathV → List Declaration
    → List Fault
statement_faults hs known file n space [] = []
statement_faults hs known file n space (d ∷ ds) =
    fault_in file (wrong_said hs (space_at (words_in space) n) known d) ++ statement_faults hs known
    file (begun_after n (item_of d.item)) (space_after space (item_of d.item)) ds

-- the files from this one on, after `n` declarations
abbrev pub file_faults : List HeadV → List Name → ℕ → ℕ → List (Vec Declaration) → List Fault
file_faults hs known file n [] = []
file_faults hs known file n (f ∷ fs) = statement_faults hs known file n None f.items
    ++ file_faults hs known (file + 1) (begun_in n (declarations_of f.items)) fs

-- ---- the whole

-- the faults of names, then of declarations, then of statements, then the names that flatc takes
-- for another declaration, at most twenty
abbrev pub faults_found : List (Vec Declaration) → List Fault
faults_found files =
    let hs = heads_of (map (λ f. declarations_of f.items) files) in
    first_twenty (name_faults hs 0 (placed_from 0 files)
    ++ (body_faults hs [] (placed_from 0 files)
    ++ (file_faults hs (known_attributes files) 0 0 files ++ taken_otherwise hs files)))

-- the file, and then the word: an earlier word has more tokens to the end
abbrev pub place_of : Fault → ℕ × ℕ
place_of f = (f.file, 18446744073709551615 - f.left)

abbrev pub place_cmp : ℕ × ℕ → ℕ × ℕ → Ordering
place_cmp p q = ordering_then (nat_cmp p.0 q.0) (nat_cmp p.1 q.1)

-- the same faults by place; those at one place in the order in which they were found
pub record AreInOrder (found told : List Fault) : Type 0 where
  pub same : IsPermutation found told
  pub sorted : IsSortedByKey place_of place_cmp told
  pub stable : IsStableByKey place_of place_cmp found told

-- exactly the faults of these files, or memory was refused
abbrev pub IsExact : List (Vec Declaration) → ResolveError → Type 0
IsExact files error.OutOfMemory = Unit {0}
IsExact files (error.Faults v) = AreInOrder (faults_found files) v.items

-- each fault is in one of the first n files
abbrev pub AreWithin : ℕ → ResolveError → Type 0
AreWithin n error.OutOfMemory = Unit {0}
AreWithin n (error.Faults v) = All (λ f. f.file < n) v.items
