-- JSON: texts, and places in files.
use Rattle.std.specs.Prelude.{ℕ, ◌==◌, ◌||◌, nat_lt, List, [], ◌∷◌, ◌++◌, codes}
use Rattle.std.specs.Prelude.{Option, Some, None, if◌then◌else◌}
use Rattle.std.specs.Fmt.{decimal}
use Rattle.std.specs.List.{flat_map}
use Rattle.planus_dump.specs.Lines.{hex_of}
use Rattle.planus_cli.specs.Reports.{line_number, column_number}

-- A byte of a text: a quote and a backslash are after a backslash, a control character is `\u` and
-- its four digits, and each other byte, also one of several of a character, stays.
abbrev pub escaped : ℕ → List ℕ
escaped b = if b == 34 || b == 92 then 92 ∷ b ∷ []
    else if nat_lt b 32 then codes "\\u00" ++ hex_of b else b ∷ []

-- a text, in quotes
abbrev pub text_json : List ℕ → List ℕ
text_json text = codes "\"" ++ (flat_map escaped text ++ codes "\"")

-- a text, if there is one
abbrev pub text_or_null : Option (List ℕ) → List ℕ
text_or_null None = codes "null"
text_or_null (Some text) = text_json text

-- the place after these bytes of a file: its line, and its column in bytes, from 1
abbrev pub place_json : List ℕ → List ℕ → List ℕ
place_json name before = codes "{\"file\":" ++ (text_json name
    ++ (codes ",\"line\":" ++ (decimal (line_number before)
    ++ (codes ",\"column\":" ++ (decimal (column_number before) ++ codes "}")))))
