-- Names that printed code has anyway, and those of types beside them.
use Rattle.std.specs.Prelude.{ℕ, ◌==◌, ◌||◌, Bool, List, [], ◌∷◌, ◌++◌, codes, map, nat_eq}
use Rattle.std.specs.Prelude.{if◌then◌else◌, ◌&&◌, Option, Some, None, length, false}
use Rattle.std.specs.List.{list_any, slice_split, ends_with, starts_with, slice_get}
use Rattle.std.specs.Str.{bytes_eq}
use Rattle.std.proofs.Math.Utf8.{encodes}
use Rattle.planus_schema.specs.declared.schema.Declared.{Declared}
use Rattle.planus_schema.specs.Names.{is_held}
use Rattle.planus_schema.specs.Distinct.{is_in}
use Rattle.planus_schema.specs.Spelling.{allowed, capital, last_word, scope_from, snake}

-- a word of a text, between spaces
abbrev pub is_word_of : List ℕ → List ℕ → Bool
is_word_of text w = list_any (λ word. bytes_eq word w) (slice_split (λ b. b == 32) text)

-- types that code has without an import, and a file of definitions
unfoldable pub own_types : List ℕ
own_types = codes "Bool Clone Copy Debug Default Drop Eq Err FieldLine Float Lib None Ok Option "
    ++ codes "Ord PartialEq PartialOrd Result Some String Table Type Unit Vec Verified"

-- what clauses and definitions import
unfoldable pub in_clauses : List (List ℕ)
in_clauses =
    (encodes (codes "◌≡◌ ◌≤◌ ◌==◌ ◌↔◌ ◌∷◌ [] ℕ ℤ ")
    ++ (codes "Bool List Option length codes pos negsuc nat_eq true "
    ++ (codes "false bit_and bit_or IfOk IfErr IsOkAnd IsTrue MatchOption "
    ++ encodes (codes "⊤ Some None Ok Err"))))
    ∷ codes "sem Bor"
    ∷ codes "w8 w16 w32 w64"
    ∷ codes "int_eq"
    ∷ (codes "of_bits binary32 binary64 Table BytesStand SliceWithStartOffset plain_slice "
    ++ (codes "slice_bytes slice_start Numbered variant_in u8_enum u16_enum u32_enum "
    ++ (codes "u64_enum i8_enum i16_enum i32_enum i64_enum Shape u8_shape u16_shape "
    ++ (codes "u32_shape u64_shape i8_shape i16_shape i32_shape i64_shape bool_shape "
    ++ (codes "f32_shape f64_shape array_shape IsPrefixed field force_align no_more "
    ++ (codes "struct_layout struct_shape FinishGives SizedFinishGives EndsAs FinishLeaves "
    ++ (codes "SizedFinishLeaves IsIn AllIn AllUnionsIn IsPrepared IsPlainVector "
    ++ (codes "IsPlainVectorRequired IsPlainRequired IsTextField IsTextRequired "
    ++ (codes "IsBytesField IsBytesRequired IsTextVector IsTextVectorRequired IsTableField "
    ++ (codes "IsTableRequired IsTableVector IsTableVectorRequired plain_kind text_kind "
    ++ (codes "bytes_kind table_kind IsPlainField IsPlainFieldOr IsRoot IsUnionField "
    ++ (codes "IsUnionRequired IsUnionVector IsUnionVectorRequired ReadsVariants "
    ++ (codes "UnionVariant table_variant struct_variant text_variant plains judged texts "
    ++ (codes "tables optional required plain_if plain_or number_or signed_or union "
    ++ codes "union_required unions unions_required IsSizedRoot gives_as"))))))))))))))
    ∷ (codes "view_table checked_texts checked_tables checked_unions Returns ReturnsAs "
    ++ (codes "checked_option Checked unknown option_map IsNestedField IsNestedRequired RootWalks "
    ++ (codes "IsMember member_tag member_bytes member_start member_offset IsVerifiedBuffer "
    ++ (codes "IsVerifiedSized VerifiesRoot IsWhereBy IsWhereFaultBy VerifiesTable "
    ++ codes "default_limits"))))
    ∷ []

-- what code imports of `planus`
unfoldable pub in_code : List ℕ
in_code =
    codes "BuildError Builder Built ByteList Create Exact FieldAt FieldGroup Lines8 List Offset "
    ++ (codes "OrDefault Plain PlainField PlainRef PlainTotal Result SliceWithStartOffset "
    ++ (codes "Stride TableKind TableRead TableReadUnion TableView TableWriter Text "
    ++ (codes "UnionOffset UnionVector Vector VectorReadUnion bytes_field bytes_required "
    ++ (codes "create_table fields plain_field plain_field_or plain_required plain_vector "
    ++ (codes "plain_vector_required put_fields read_fields read_plain_ref read_root "
    ++ (codes "read_sized_root read_variant read_view table_field table_required "
    ++ (codes "table_vector table_vector_required text_field text_required text_vector "
    ++ (codes "text_vector_required union_field union_required union_vector "
    ++ codes "union_vector_required"))))))))

unfoldable pub errors_in_code : List ℕ
errors_in_code = codes "ErrorKind UnknownEnumTagKind"

unfoldable pub in_proofs : List ℕ
in_proofs = encodes (codes "refl lit≤ lit<")

abbrev pub is_imported : List ℕ → Bool
is_imported w = list_any (λ text. is_word_of text w) in_clauses || (is_word_of in_code w
    || (is_word_of errors_in_code w || is_word_of in_proofs w))

-- how types of fields, groups and views end
abbrev pub ends_as_printed : List ℕ → Bool
ends_as_printed w = ends_with nat_eq w (codes "Ref") || (ends_with nat_eq w (codes "Fields")
    || (ends_with nat_eq w (codes "FieldGroup") || (ends_with nat_eq w (codes "FieldLines")
    || ends_with nat_eq w (codes "View"))))

-- what a crate has beside its modules
unfoldable pub own_modules : List ℕ
own_modules = codes "finish_root finish_root_size_prefixed has_identifier lib read_as_root "
    ++ (codes "read_size_prefixed_as_root root verified verify_as_root verify_buffer "
    ++ codes "verify_size_prefixed_as_root verify_size_prefixed_buffer where_fault_is where_is")

-- code has such a type anyway
abbrev pub is_known_type : List ℕ → Bool
is_known_type w = is_word_of own_types w || (is_imported w || ends_as_printed w)

-- with `_` after it where it is known or reserved
abbrev pub allowed_type : List ℕ → List ℕ
allowed_type w = if is_known_type w || is_held w then w ++ 95 ∷ [] else w

-- the last word of a full name, as a type
abbrev pub type_word : List ℕ → List ℕ
type_word name = allowed_type (capital (last_word name))

abbrev pub type_names : List Declared → List (List ℕ)
type_names ds = scope_from [] (map (λ d. type_word d.name.items) ds)

abbrev pub is_dot : Option ℕ → Bool
is_dot None = false
is_dot (Some b) = b == 46

-- a full name goes on after this namespace
abbrev pub is_around : List ℕ → List ℕ → Bool
is_around w name = starts_with nat_eq name w && is_dot (slice_get name (length w))

-- a type has this very name, a crate has it beside its modules, or an outermost namespace has it
abbrev pub is_held_module : List (List ℕ) → List Declared → List ℕ → Bool
is_held_module types ds w = is_in types w
    || (is_word_of own_modules w || list_any (λ d. is_around w d.name.items) ds)

-- with `_` after it where it is held, and another where it is reserved
abbrev pub allowed_module : List (List ℕ) → List Declared → List ℕ → List ℕ
allowed_module types ds w = allowed (if is_held_module types ds w then w ++ 95 ∷ [] else w)

-- a type's module has its name in small letters
abbrev pub module_word : List (List ℕ) → List Declared → List ℕ → List ℕ
module_word types ds t = allowed_module types ds (snake t)

abbrev pub modules_of : List (List ℕ) → List Declared → List (List ℕ)
modules_of types ds = scope_from [] (map (module_word types ds) types)

abbrev pub module_names : List Declared → List (List ℕ)
module_names ds = modules_of (type_names ds) ds
