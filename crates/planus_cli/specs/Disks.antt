-- What files hold, and what is written to them.
use Rattle.std.specs.Prelude.{◌≡◌, ◌<◌, length, ⊤, ℕ, Bool, List, Option, Some, None, [], ◌∷◌, codes}
use Rattle.std.specs.Prelude.{if◌then◌else◌}
use Rattle.std.specs.List.{list_any}
use Rattle.std.specs.Str.{bytes_eq}
use Rattle.std.specs.String.{string_bytes}
use Rattle.planus_cli.specs.declared.check.File.{File}
use Rattle.planus_cli.specs.SchemaTexts.{greatest_text}
use Rattle.planus_cli.specs.declared.file_error.FileError.{FileError}
use Rattle.planus_cli.specs.declared.file_error.FileError.TheVariants as error

-- By the name of a file: the bytes that it has; that it has more than are read; whether it is
-- there; why it isn't read; the bytes that were written to it; why they weren't.
pub record Disk : Type 1 where
  pub Holds : List ℕ → List ℕ → Type 0
  pub Long : List ℕ → Type 0
  pub There : List ℕ → Bool → Type 0
  pub Fails : List ℕ → FileError → Type 0
  pub Wrote : List ℕ → List ℕ → Type 0
  pub Refuses : List ℕ → FileError → Type 0

-- of files of the system nothing is said
abbrev pub unknown_disk : Disk
unknown_disk = record {
  Holds = λ name bytes. ⊤;
  Long = λ name. ⊤;
  There = λ name answer. ⊤;
  Fails = λ name error. ⊤;
  Wrote = λ name bytes. ⊤;
  Refuses = λ name why. ⊤;
}

abbrev pub is_named : List ℕ → File → Bool
is_named name file = bytes_eq (string_bytes file.name) name

-- the text of the first file of this name
abbrev pub text_named : List File → List ℕ → Option (List ℕ)
text_named [] name = None
text_named (f ∷ fs) name = if is_named name f then Some f.text.items else text_named fs name

-- why a given file isn't read
abbrev pub GivenFails : List File → List ℕ → FileError → Type 0
GivenFails files name error.Missing = text_named files name ≡ None
GivenFails files name error.Folder = ⊥
GivenFails files name error.NoFolder = ⊥
GivenFails files name error.Other = ⊥
GivenFails files name error.OutOfMemory = ⊤
GivenFails files name error.Forbidden = ⊥

abbrev pub given_disk : List File → Disk
given_disk files = record {
  Holds = λ name bytes. text_named files name ≡ Some bytes;
  Long = λ name. (text : List ℕ) × (text_named files name ≡ Some text) × (greatest_text < length text);
  There = λ name answer. answer ≡ list_any (is_named name) files;
  Fails = GivenFails files;
  Wrote = λ name bytes. ⊥;
  Refuses = λ name why. why ≡ error.Forbidden;
}

-- what is said after the name of a file that isn't read or written
abbrev pub after_name : FileError → List ℕ
after_name error.OutOfMemory = codes ": memory is refused"
after_name error.Missing = codes ": there is no such file"
after_name error.Folder = codes ": it is a folder"
after_name error.NoFolder = codes ": its folder is a file"
after_name error.Forbidden = codes ": permission is denied"
after_name error.Other = codes ": the system fails"
