-- Crates of printed code: their names, and how their files are written or compared.
use Rattle.std.specs.Prelude.{◌≡◌, ℕ, Bool, false, ◌&&◌, ◌||◌, ◌==◌, not, List, [], ◌∷◌, codes, nat_eq}
use Rattle.std.specs.Prelude.{◌++◌, ◌≢◌, ◌⊎◌, true, max, Option, Some, Result, Ok, Err}
use Rattle.std.specs.Prelude.{if◌then◌else◌}
use Rattle.std.specs.Io.KnownBytes.{Appends}
use Rattle.std.specs.List.{list_all, starts_with}
use Rattle.std.specs.Int.{is_in_range}
use Rattle.planus_schema.specs.Names.{is_in, is_reserved}
use Rattle.std.specs.Str.{bytes_eq}
use Rattle.std.specs.String.{string_bytes}
use Rattle.planus_schema.specs.Keys.{have_key}
use Rattle.planus_schema.specs.declared.schema.Declared.{Declared}
use Rattle.planus_schema.specs.declared.schema.Schema.{Schema}
use Rattle.planus_tie.specs.declared.files.PrintedFile.{PrintedFile}
use Rattle.planus_codegen.specs.Printed.{IsPrinted}
use Rattle.planus_cli.specs.Disks.{Disk, after_name}
use Rattle.planus_cli.specs.Files.{PutsFile}
use Rattle.planus_cli.specs.Including.{file_named}
use Rattle.planus_cli.specs.Loading.{Places}
use Rattle.planus_cli.specs.Sources.{MeansAll}
use Rattle.planus_cli.specs.declared.file_error.FileError.{FileError}
use Rattle.planus_cli.specs.SchemaTexts.{line_of}

abbrev pub is_small_letter : ℕ → Bool
is_small_letter b = is_in_range 97 122 b

abbrev pub is_in_name : ℕ → Bool
is_in_name b = is_small_letter b || is_in_range 48 57 b || b == 95

-- lower-case letters, digits and `_`, a letter first
abbrev pub is_word : List ℕ → Bool
is_word [] = false
is_word (b ∷ bs) = is_small_letter b && list_all is_in_name bs

-- the libraries that Rattle has
unfoldable pub libraries : List (List ℕ)
libraries =
    codes "anyhow" ∷ codes "arrayvec" ∷ codes "atomic_blocks" ∷ codes "atomic_table" ∷
    codes "base64" ∷ codes "bitflags" ∷ codes "boxcar" ∷ codes "bstr" ∷ codes "bumpalo" ∷
    codes "byteorder" ∷ codes "bytes" ∷ codes "caseless" ∷ codes "circular_buffer" ∷
    codes "clap" ∷ codes "core" ∷ codes "counted_slot" ∷ codes "crossbeam_channel" ∷
    codes "crossbeam_deque" ∷ codes "crossbeam_queue" ∷ codes "crossbeam_utils" ∷ codes "csv" ∷
    codes "either" ∷ codes "fast_float" ∷ codes "form_urlencoded" ∷ codes "futures" ∷
    codes "hex" ∷ codes "http" ∷ codes "http1" ∷ codes "http1_typed" ∷ codes "http_body" ∷
    codes "http_body_util" ∷ codes "http_header" ∷ codes "http_server" ∷ codes "http_uri" ∷
    codes "httparse" ∷ codes "httpdate" ∷ codes "hyper" ∷ codes "idna" ∷ codes "indexmap" ∷
    codes "io" ∷ codes "itertools" ∷ codes "itoa" ∷ codes "jiff" ∷ codes "jiff_core" ∷
    codes "jiff_duration" ∷ codes "jiff_fmt" ∷ codes "jiff_span" ∷ codes "jiff_strtime" ∷
    codes "jiff_tz" ∷ codes "jiff_zoned" ∷ codes "json" ∷ codes "left_right" ∷ codes "libc" ∷
    codes "linked_list_allocator" ∷ codes "log" ∷ codes "logbook" ∷ codes "lru" ∷
    codes "matchit" ∷ codes "md5" ∷ codes "memchr" ∷ codes "mio" ∷ codes "num_traits" ∷
    codes "once_cell" ∷ codes "os" ∷ codes "percent_encoding" ∷ codes "rand" ∷
    codes "rand_chacha" ∷ codes "rand_core" ∷ codes "rand_pcg" ∷ codes "rand_xoshiro" ∷
    codes "rayon" ∷ codes "regex" ∷ codes "regex_bits" ∷ codes "regex_class" ∷
    codes "regex_compile" ∷ codes "regex_dfa" ∷ codes "regex_extract" ∷ codes "regex_hir" ∷
    codes "regex_levels" ∷ codes "regex_literal" ∷ codes "regex_meta" ∷ codes "regex_nfa" ∷
    codes "regex_syntax" ∷ codes "regex_tagged" ∷ codes "regex_vm" ∷ codes "rtrb" ∷ codes "ryu" ∷
    codes "semver" ∷ codes "serde" ∷ codes "serde_json" ∷ codes "sha1" ∷ codes "sha2" ∷
    codes "sharded_slab" ∷ codes "simdutf8" ∷ codes "slab" ∷ codes "smallvec" ∷ codes "sqlite" ∷
    codes "sqlite_ast" ∷ codes "sqlite_btree" ∷ codes "sqlite_catalog" ∷ codes "sqlite_disk" ∷
    codes "sqlite_draft" ∷ codes "sqlite_exec" ∷ codes "sqlite_format" ∷ codes "sqlite_items" ∷
    codes "sqlite_keyed" ∷ codes "sqlite_pager" ∷ codes "sqlite_pages" ∷ codes "sqlite_pool" ∷
    codes "sqlite_record" ∷ codes "sqlite_resolve" ∷ codes "sqlite_rules" ∷
    codes "sqlite_schema" ∷ codes "sqlite_sql" ∷ codes "sqlite_std_file" ∷ codes "sqlite_store" ∷
    codes "sqlite_syntax" ∷ codes "sqlite_tied" ∷ codes "sqlite_trees" ∷ codes "sqlite_typed" ∷
    codes "sqlite_typing" ∷ codes "sqlite_value" ∷ codes "sqlite_wal" ∷ codes "std" ∷
    codes "std_alloc" ∷ codes "std_collections" ∷ codes "std_heap" ∷ codes "std_io" ∷
    codes "strsim" ∷ codes "thiserror" ∷ codes "tokio" ∷ codes "tokio_util" ∷ codes "toml" ∷
    codes "toml_datetime" ∷ codes "toml_parser" ∷ codes "toml_writer" ∷ codes "tungstenite" ∷
    codes "ucd_age" ∷ codes "ucd_bidi" ∷ codes "ucd_breaks" ∷ codes "ucd_case" ∷
    codes "ucd_category" ∷ codes "ucd_derived" ∷ codes "ucd_east_asian" ∷ codes "ucd_emoji" ∷
    codes "ucd_idna_map" ∷ codes "ucd_normal" ∷ codes "ucd_perl" ∷ codes "ucd_props" ∷
    codes "ucd_script" ∷ codes "ucd_sets" ∷ codes "ucd_table" ∷ codes "unicode" ∷
    codes "unicode_ident" ∷ codes "unicode_normalization" ∷ codes "unicode_segmentation" ∷
    codes "unicode_width" ∷ codes "url" ∷ codes "uuid" ∷ codes "websocket" ∷ []

abbrev pub is_library : List ℕ → Bool
is_library w = is_in libraries w

-- as all crates that printed code stands on begin
abbrev pub is_of_planus : List ℕ → Bool
is_of_planus w = starts_with nat_eq w (codes "planus")

-- a name that a crate of printed code can have
abbrev pub is_crate_name : List ℕ → Bool
is_crate_name w = is_word w && not (is_reserved w || is_library w || is_of_planus w)

-- the crates that printed code stands on, after its name: `planus_keys` where a table has a key
abbrev pub stands_on : List Declared → List ℕ
stands_on ds = if have_key ds then codes ": planus planus_keys planus_views`"
    else codes ": planus planus_views`"

-- what a repository says of the crate
abbrev pub crates_line : List Declared → List ℕ → List ℕ
crates_line ds name = line_of (codes "the line of crates.txt is `") name (stands_on ds)

-- what a repository says of its crate for C
abbrev pub foreign_line : List ℕ → List ℕ
foreign_line name = line_of (codes "the line of crates.txt is `") name
    (codes "_c staticlib: " ++ (name ++ codes " planus planus_foreign`"))

-- why no crate can have a name, after it
abbrev pub name_fault : List ℕ → List ℕ
name_fault w = if is_library w then codes "`: a library of Rattle has it; the folder after -o needs another name"
    else if is_reserved w then codes "`: it is a reserved word; the folder after -o needs another name"
    else if is_of_planus w
    then codes "`: crates that printed code stands on begin so; the folder after -o needs another name"
    else codes "`: a name has small letters, digits and `_`, and first a letter"

-- It was said that no crate can have some name, and why.
abbrev pub RefusesName : Option (List ℕ) → Option (List ℕ) → Type 0
RefusesName unsaid said = (name : List ℕ) × (is_crate_name name ≡ false)
    × Appends unsaid said (line_of (codes "no crate can have the name `") name (name_fault name))

-- what is known of whether a file has these bytes
abbrev pub IsHeld : Disk → List ℕ → List ℕ → Result Bool FileError → Type 0
IsHeld disk name bytes (Ok true) = disk.Holds name bytes
IsHeld disk name bytes (Ok false) = disk.Long name
    ⊎ ((other : List ℕ) × disk.Holds name other × (bytes_eq other bytes ≡ false))
IsHeld disk name bytes (Err error) = disk.Fails name error

abbrev pub other_why : Result Bool FileError → List ℕ
other_why (Ok held) = codes " isn't what is printed"
other_why (Err error) = after_name error

-- It was said that a file isn't what is printed, or why it can't be read.
abbrev pub TellsOther : List ℕ → Result Bool FileError → ℕ → Option (List ℕ) → Option (List ℕ)
    → Type 0
TellsOther name found status unsaid said =
    (status ≡ 1) × Appends unsaid said (line_of [] name (other_why found))

-- A file that doesn't have these bytes is told of, or written.
abbrev pub PrintsOther : Disk → List ℕ → List ℕ → Bool → Result Bool FileError → ℕ
    → Option (List ℕ) → Option (List ℕ) → Type 0
PrintsOther disk name bytes true found status unsaid said = TellsOther name found status unsaid said
PrintsOther disk name bytes false found status unsaid said =
    PutsFile disk name bytes status unsaid said

abbrev pub PrintsBytes : Disk → List ℕ → List ℕ → Bool → ℕ → Option (List ℕ) → Option (List ℕ)
    → Type 0
PrintsBytes disk name bytes check status unsaid said =
    ((status ≡ 0) × disk.Holds name bytes × (said ≡ unsaid))
    ⊎ ((found : Result Bool FileError) × IsHeld disk name bytes found
    × PrintsOther disk name bytes check found status unsaid said)

-- The file of a crate, in its folder, has its text, or is told of, or written.
abbrev pub PrintsFile : Disk → List ℕ → Bool → PrintedFile → ℕ → Option (List ℕ)
    → Option (List ℕ) → Type 0
PrintsFile disk folder check file status unsaid said =
    PrintsBytes disk (folder ++ (codes "/" ++ string_bytes file.path)) (string_bytes file.text) check
    status unsaid said

-- Files follow, unless one can't be written.
abbrev pub PrintsOn : ℕ → (ℕ → Option (List ℕ) → Option (List ℕ) → Type 0) → ℕ
    → Option (List ℕ) → Option (List ℕ) → Type 0
PrintsOn one Rest status told said =
    ((one ≡ 2) × (status ≡ 2) × (said ≡ told)) ⊎ ((one ≢ 2) × Rest status told said)

-- Each file in order. The worst status before stays.
abbrev pub PrintsAll : Disk → List ℕ → Bool → List PrintedFile → ℕ → ℕ → Option (List ℕ)
    → Option (List ℕ) → Type 0
PrintsAll disk folder check [] worst status unsaid said = (status ≡ worst) × (said ≡ unsaid)
PrintsAll disk folder check (file ∷ files) worst status unsaid said =
    (one : ℕ) × (told : Option (List ℕ)) × PrintsFile disk folder check file one unsaid told
    × PrintsOn one (PrintsAll disk folder check files (max worst one)) status told said

-- the lines of the crate and, where there are calls for C, of theirs
abbrev pub lines_said : Bool → List Declared → List ℕ → List ℕ
lines_said true ds name = crates_line ds name ++ foreign_line name
lines_said false ds name = crates_line ds name

abbrev pub SaysLines : Bool → Bool → List Declared → List ℕ → Option (List ℕ) → Option (List ℕ)
    → Type 0
SaysLines true foreign ds name unsaid said = said ≡ unsaid
SaysLines false foreign ds name unsaid said = Appends unsaid said (lines_said foreign ds name)

-- the folder of a crate with calls for C
abbrev pub foreign_folder : List ℕ → List ℕ
foreign_folder folder = folder ++ codes "_c"

-- All files of a crate with calls for C have their texts or were written, where there is one.
abbrev pub PrintsForeign : Disk → List ℕ → Bool → Bool → Option (List ℕ) → Option (List ℕ) → Type 0
PrintsForeign disk folder check false unsaid said = said ≡ unsaid
PrintsForeign disk folder check true unsaid said =
    (files : List PrintedFile) × PrintsAll disk (foreign_folder folder) check files 0 0 unsaid said

-- All files of a crate have their texts or were written, and those of its calls for C.
pub record PrintsBoth (disk : Disk) (folder name : List ℕ) (check foreign : Bool)
    (files : List PrintedFile) (ds : List Declared) (unsaid said : Option (List ℕ)) : Type 0 where
  pub told : Option (List ℕ)
  pub prints : PrintsAll disk folder check files 0 0 unsaid told
  pub told_of_both : Option (List ℕ)
  pub prints_foreign : PrintsForeign disk folder check foreign told told_of_both
  pub says : SaysLines check foreign ds name told_of_both said

-- All files of a crate with the code of a schema have their texts or were written.
pub record PrintsCrate (disk : Disk) (folder name : List ℕ) (check verified foreign : Bool)
    (schema : Schema) (unsaid said : Option (List ℕ)) : Type 0 where
  pub files : List PrintedFile
  pub are : IsPrinted verified schema files
  pub prints : PrintsBoth disk folder name check foreign files schema.declarations.items unsaid said

-- A crate has the code of what the named file means.
pub record PrintsNamed (places : Places) (word folder name : List ℕ)
    (check verified foreign : Bool) (unsaid said : Option (List ℕ)) : Type 0 where
  pub schema : Schema
  pub told : Option (List ℕ)
  pub means : MeansAll places (file_named word) (Some schema) unsaid told
  pub prints : PrintsCrate places.disk folder name check verified foreign schema told said

-- The crate has a name that crates can have.
pub record PrintsOne (places : Places) (check verified foreign : Bool) (word : List ℕ)
    (unsaid said : Option (List ℕ)) : Type 0 where
  pub folder : List ℕ
  pub name : List ℕ
  pub is : is_crate_name name ≡ true
  pub prints : PrintsNamed places word folder name check verified foreign unsaid said

-- `rattle` has one schema.
abbrev pub PrintsCode : Places → Bool → Bool → Bool → List (List ℕ) → Option (List ℕ)
    → Option (List ℕ) → Type 0
PrintsCode places check verified foreign (word ∷ []) unsaid said =
    PrintsOne places check verified foreign word unsaid said
PrintsCode places check verified foreign several unsaid said = ⊥
