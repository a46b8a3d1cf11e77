-- Which file an `include` names.
use Rattle.std.specs.Prelude.{◌≡◌, ◌⊎◌, ℕ, ◌+◌, ◌==◌, ◌&&◌, ◌||◌, not, Bool, true, false, List, [], ◌∷◌, ◌++◌}
use Rattle.std.specs.Prelude.{map, fold, reverse, take, drop, length, codes, nat_eq, Option, Some, None}
use Rattle.std.specs.Prelude.{if◌then◌else◌}
use Rattle.std.specs.List.{slice_split, join_by, starts_with}
use Rattle.std.specs.Path.{rfind_below}
use Rattle.std.specs.Str.{bytes_eq, is_utf8}
use Rattle.planus_syntax.specs.Strings.{string_text}

-- a segment of a path that stays in its folder
abbrev pub stays : List ℕ → Bool
stays segment = bytes_eq segment [] || bytes_eq segment (codes ".")

abbrev pub leaves : List ℕ → Bool
leaves segment = bytes_eq segment (codes "..")

-- the folders, the last one first, after one more segment
abbrev pub entered : List (List ℕ) → List ℕ → List (List ℕ)
entered [] segment = if stays segment then [] else segment ∷ []
entered (last ∷ before) segment =
    if leaves segment && not (leaves last) then before
    else if stays segment then last ∷ before else segment ∷ last ∷ before

abbrev pub is_slash : ℕ → Bool
is_slash b = b == 47

-- the folders that a path goes through, the last one first
abbrev pub walked : List ℕ → List (List ℕ)
walked path = fold entered [] (slice_split is_slash path)

-- a name is never empty, nor `-`, which names standard input
abbrev pub named : List ℕ → List ℕ → List ℕ
named path name =
    if starts_with nat_eq path (codes "/") then codes "/" ++ name
    else if bytes_eq name [] || bytes_eq name (codes "-") then codes "./" ++ name else name

-- The one name of a file.
unfoldable pub normal : List ℕ → List ℕ
normal path = named path (join_by (λ s. s) (codes "/") (reverse (walked path)))

-- the file that a word of the call names, or standard input
abbrev pub file_named : List ℕ → List ℕ
file_named word = if bytes_eq word (codes "-") then word else normal word

abbrev pub file_in : List ℕ → List ℕ → List ℕ
file_in folder path = normal (folder ++ (codes "/" ++ path))

abbrev pub file_at : Option ℕ → List ℕ → List ℕ → List ℕ
file_at None name path = normal path
file_at (Some length) name path = file_in (take length name) path

-- the file in the folder of another one
abbrev pub file_beside : List ℕ → List ℕ → List ℕ
file_beside name path = file_at (rfind_below 47 name (length name)) name path

abbrev pub part_from : Option ℕ → List ℕ → List ℕ
part_from None path = path
part_from (Some length) path = drop (length + 1) path

-- what follows the last slash of a path, or all
abbrev pub last_part : List ℕ → List ℕ
last_part path = part_from (rfind_below 47 path (length path)) path

-- The first of these names under which there is a file.
abbrev pub IsFirstThere : (List ℕ → Bool → Type 0) → List (List ℕ) → Option (List ℕ) → Type 0
IsFirstThere There [] found = found ≡ None
IsFirstThere There (name ∷ names) found =
    (There name true × (found ≡ Some name)) ⊎ (There name false × IsFirstThere There names found)

-- the names that are tried: beside the file that includes, and then in each folder of the call
abbrev pub tried : List (List ℕ) → List ℕ → List ℕ → List (List ℕ)
tried folders name path = file_beside name path ∷ map (λ folder. file_in folder path) folders

abbrev pub text_or_empty : List ℕ → List ℕ
text_or_empty bytes = if is_utf8 bytes then bytes else []

-- the path that a string spells
abbrev pub path_of : List ℕ → List ℕ
path_of string = text_or_empty (string_text string)
