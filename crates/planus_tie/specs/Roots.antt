-- The root of a printed crate, and its file identifier.
use Rattle.std.specs.Prelude.{◌≡◌, ℕ, Bool, true, false, ◌&&◌, is_none, List, [], ◌∷◌, ◌++◌, codes}
use Rattle.std.specs.Prelude.{decimal, Option, Some, None, if◌then◌else◌}
use Rattle.std.specs.List.{flat_map}
use Rattle.planus_schema.specs.declared.schema.Base.TheVariants as base
use Rattle.planus_tie.specs.Bare.{bare}
use Rattle.planus_tie.specs.Holes.{filled}
use Rattle.planus_tie.specs.Reading.{after, begins, body_of}
use Rattle.planus_tie.specs.declared.holes.Holes.{Holes}
use Rattle.planus_tie.specs.declared.naming.Naming.{Naming}

-- of the table that is the root
abbrev pub root_holes : ℕ → Holes
root_holes i = record {
  index = i;
  place = 0;
  base = base.Table i;
  number = record { negative = false; magnitude = 0 };
  size = 0;
  alignment = 0;
  count = None;
  padding = 0;
}

-- a function that begins so has this body
abbrev pub has_function : Naming → Holes → List ℕ → List ℕ → List ℕ → Bool
has_function n own head body text =
    begins (body_of (bare (filled n own head)) text) (bare (filled n own body))

-- reads the root
abbrev pub reads : Naming → Holes → List ℕ → Bool
reads n own text =
    has_function n own (codes "pub fn read_as_root(bytes: &[u8]) -> planus::Result<$TRef<'_>>")
    (codes "read_root(bytes) }") text
    && has_function n own (codes "pub fn read_size_prefixed_as_root(bytes: &[u8])"
    ++ codes " -> planus::Result<($TRef<'_>, &[u8])>") (codes "read_sized_root(bytes) }") text

-- verifies it
abbrev pub verifies : Naming → Holes → List ℕ → Bool
verifies n own text =
    has_function n own (codes "pub fn verify_as_root(bytes: &[u8], limits: planus_views::Limits)"
    ++ codes " -> Result<$TView<'_>, planus_views::Fault>")
    (codes "planus_views::verify_root(bytes, limits) }") text
    && has_function n own (codes "pub fn verify_size_prefixed_as_root(bytes: &[u8],"
    ++ (codes " limits: planus_views::Limits)"
    ++ codes " -> Result<($TView<'_>, &[u8]), planus_views::BufferFault>"))
    (codes "planus_views::verify_sized_buffer(bytes, limits, None) }") text

-- finds the names of the fields that lead to an error's place
abbrev pub finds : Naming → Holes → List ℕ → Bool
finds n own text =
    has_function n own (codes "pub fn where_is(alloc: std::alloc::Global, error: &planus::Error,"
    ++ (codes " bytes: &[u8]) -> Result<Option<planus_views::FieldPath>,"
    ++ codes " std::alloc::AllocError>"))
    (codes "let names = crate::verified::names(); let limits = planus_views::Limits::default();"
    ++ codes " planus_views::where_is::<$T>(alloc, &names, error, bytes, limits) }") text
    && has_function n own (codes "pub fn where_fault_is(alloc: std::alloc::Global,"
    ++ (codes " fault: &planus_views::Fault, bytes: &[u8])"
    ++ codes " -> Result<Option<planus_views::FieldPath>, std::alloc::AllocError>"))
    (codes "let names = crate::verified::names(); let limits = planus_views::Limits::default();"
    ++ codes " planus_views::where_fault_is::<$T>(alloc, &names, fault, bytes, limits) }") text

-- finishes a buffer with the identifier
abbrev pub finishes : Naming → Holes → List ℕ → Bool
finishes n own text =
    has_function n own (codes "pub fn finish_root(builder: &mut Builder, root: Offset<$T>)"
    ++ codes " -> Result<&[u8], BuildError>")
    (codes "builder.finish(root, Some(FILE_IDENTIFIER)) }") text
    && has_function n own (codes "pub fn finish_root_size_prefixed(builder: &mut Builder,"
    ++ codes " root: Offset<$T>) -> Result<&[u8], BuildError>")
    (codes "builder.finish_size_prefixed(root, Some(FILE_IDENTIFIER)) }") text

-- tells whether a buffer has the identifier
abbrev pub looks : Naming → Holes → List ℕ → Bool
looks n own text = has_function n own (codes "pub fn has_identifier(bytes: &[u8]) -> bool")
    (codes "planus::has_identifier(bytes, FILE_IDENTIFIER) }") text

-- verifies a buffer that has the identifier
abbrev pub verifies_identified : Naming → Holes → List ℕ → Bool
verifies_identified n own text =
    has_function n own (codes "pub fn verify_buffer(bytes: &[u8], limits: planus_views::Limits)"
    ++ codes " -> Result<$TView<'_>, planus_views::BufferFault>")
    (codes "planus_views::verify_buffer(bytes, limits, Some(FILE_IDENTIFIER)) }") text
    && has_function n own (codes "pub fn verify_size_prefixed_buffer(bytes: &[u8],"
    ++ (codes " limits: planus_views::Limits)"
    ++ codes " -> Result<($TView<'_>, &[u8]), planus_views::BufferFault>"))
    (codes "planus_views::verify_sized_buffer(bytes, limits, Some(FILE_IDENTIFIER)) }") text

abbrev pub has_verified : Bool → Naming → Holes → List ℕ → Bool
has_verified identified n own text = verifies n own text && (finds n own text
    && (if identified then verifies_identified n own text else true))

abbrev pub has_identified : Naming → Holes → List ℕ → Bool
has_identified n own text = finishes n own text && looks n own text

abbrev pub is_root_text : Bool → Bool → Naming → Holes → List ℕ → Bool
is_root_text verified identified n own text = reads n own text
    && ((if verified then has_verified identified n own text else true)
    && (if identified then has_identified n own text else true))

-- The text has the functions that read a buffer by this root, where verified reading is printed
-- those that verify it, and where there is an identifier those that write it and look for it.
abbrev pub IsRootTied : Bool → Bool → Naming → ℕ → List ℕ → Type 0
IsRootTied verified identified n i text =
    is_root_text verified identified n (root_holes i) (bare text) ≡ true

-- the identifier

-- with commas between
abbrev pub numbers : List ℕ → List ℕ
numbers [] = []
numbers (b ∷ bs) = decimal b ++ flat_map (λ x. codes "," ++ decimal x) bs

abbrev pub identifier_start : List ℕ
identifier_start = codes "pub const FILE_IDENTIFIER:"

abbrev pub has_identifier : Option (List ℕ) → List ℕ → Bool
has_identifier None text = is_none (after identifier_start text)
has_identifier (Some bytes) text =
    begins (after identifier_start text) (codes "[u8;4]=[" ++ (numbers bytes ++ codes "];"))

-- The text has the constant with these bytes, or none.
abbrev pub IsIdentifierTied : Option (List ℕ) → List ℕ → Type 0
IsIdentifierTied identifier text = has_identifier identifier (bare text) ≡ true
