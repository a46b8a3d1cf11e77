-- Names in printed code.
use Rattle.std.specs.Prelude.{ℕ, ◌==◌, ◌&&◌, ◌||◌, not, Bool, true, false, List, [], ◌∷◌, ◌++◌}
use Rattle.std.specs.Prelude.{codes}
use Rattle.std.specs.Global.{Vec}
use Rattle.std.specs.Char.{is_ascii_digit, is_ascii_alphanumeric}
use Rattle.std.specs.List.{list_all, list_any}
use Rattle.std.specs.Str.{bytes_eq, str_eq_ignore_ascii_case}

abbrev pub is_name_byte : ℕ → Bool
is_name_byte b = is_ascii_alphanumeric b || b == 95

abbrev pub begins_name : List ℕ → Bool
begins_name [] = false
begins_name (b ∷ bs) = not (is_ascii_digit b)

-- keywords of Rust, and those it keeps free
abbrev pub words_of_rust : List (List ℕ)
words_of_rust =
    codes "_" ∷ codes "Self" ∷ codes "abstract" ∷ codes "as" ∷ codes "async" ∷ codes "await" ∷
    codes "become" ∷ codes "box" ∷ codes "break" ∷ codes "const" ∷ codes "continue" ∷
    codes "crate" ∷ codes "do" ∷ codes "dyn" ∷ codes "else" ∷ codes "enum" ∷ codes "extern" ∷
    codes "false" ∷ codes "final" ∷ codes "fn" ∷ codes "for" ∷ codes "gen" ∷ codes "if" ∷
    codes "impl" ∷ codes "in" ∷ codes "let" ∷ codes "loop" ∷ codes "macro" ∷ codes "match" ∷
    codes "mod" ∷ codes "move" ∷ codes "mut" ∷ codes "override" ∷ codes "priv" ∷ codes "pub" ∷
    codes "ref" ∷ codes "return" ∷ codes "self" ∷ codes "static" ∷ codes "struct" ∷
    codes "super" ∷ codes "trait" ∷ codes "true" ∷ codes "try" ∷ codes "type" ∷ codes "typeof" ∷
    codes "union" ∷ codes "unsafe" ∷ codes "unsized" ∷ codes "use" ∷ codes "virtual" ∷
    codes "where" ∷ codes "while" ∷ codes "yield" ∷ []

-- words of clauses and proofs
abbrev pub words_of_proofs : List (List ℕ)
words_of_proofs =
    codes "abbrev" ∷ codes "elim" ∷ codes "ensures" ∷ codes "ghost" ∷ codes "omega" ∷
    codes "prove" ∷ codes "requires" ∷ codes "syntax" ∷ codes "unfolding" ∷ []

-- types of numbers
abbrev pub names_of_types : List (List ℕ)
names_of_types =
    codes "bool" ∷ codes "f32" ∷ codes "f64" ∷ codes "i16" ∷ codes "i32" ∷ codes "i64" ∷
    codes "i8" ∷ codes "u16" ∷ codes "u32" ∷ codes "u64" ∷ codes "u8" ∷ []

-- names that printed code has anyway: libraries, `main`, and a constant
abbrev pub names_of_code : List (List ℕ)
names_of_code =
    codes "NOTHING" ∷ codes "core" ∷ codes "main" ∷ codes "planus" ∷ codes "std" ∷ []

unfoldable pub reserved : List (List ℕ)
reserved = words_of_rust ++ (words_of_proofs ++ (names_of_types ++ names_of_code))

abbrev pub is_in : List (List ℕ) → List ℕ → Bool
is_in words w = list_any (λ word. bytes_eq word w) words

-- a word that no name in printed code can be
abbrev pub is_reserved : List ℕ → Bool
is_reserved w = is_in reserved w

-- words of clauses and of printed code, which a namespace can have
unfoldable pub words_of_members : List (List ℕ)
words_of_members =
    codes "builder" ∷ codes "clone" ∷ codes "data" ∷ codes "deriving" ∷ codes "fields" ∷
    codes "module" ∷ codes "record" ∷ codes "result" ∷ codes "table" ∷ []

-- what the methods of an enum call its values
unfoldable pub words_of_values : List (List ℕ)
words_of_values = codes "other" ∷ codes "this" ∷ []

-- a word that no field, type or module of a declaration can be
abbrev pub is_held : List ℕ → Bool
is_held w = is_reserved w || is_in words_of_members w

-- an identifier: letters, digits and `_`, with no digit first, and not reserved
abbrev pub is_name : List ℕ → Bool
is_name w = list_all is_name_byte w && (begins_name w && not (is_reserved w))

-- a name equals one of these but for the case of letters
abbrev pub is_among : List ℕ → List (Vec ℕ) → Bool
is_among name names = list_any (λ m. str_eq_ignore_ascii_case m.items name) names

-- no two are alike, whatever the case of letters
abbrev pub are_apart : List (Vec ℕ) → Bool
are_apart [] = true
are_apart (n ∷ ns) = not (is_among n.items ns) && are_apart ns

abbrev pub are_all_names : List (Vec ℕ) → Bool
are_all_names ns = list_all (λ n. is_name n.items) ns

-- the names of a scope: identifiers, no two alike
abbrev pub are_names : List (Vec ℕ) → Bool
are_names ns = are_all_names ns && are_apart ns

abbrev pub are_scopes : List (Vec (Vec ℕ)) → Bool
are_scopes scopes = list_all (λ ns. are_names ns.items) scopes

-- no name is among the others: modules and types share a scope
abbrev pub are_apart_from : List (Vec ℕ) → List (Vec ℕ) → Bool
are_apart_from others names =
    list_all (λ n. not (list_any (λ w. bytes_eq w.items n.items) others)) names
