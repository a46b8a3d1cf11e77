-- The report of a fault: place, message, line, mark.
use Rattle.std.specs.Prelude.{ℕ, ◌+◌, ◌-◌, ◌==◌, ◌||◌, nat_lt, Bool, List, [], ◌∷◌, ◌++◌, length}
use Rattle.std.specs.Prelude.{take, drop, count_by, codes, if◌then◌else◌}
use Rattle.std.specs.Int.{is_in_range}
use Rattle.std.specs.List.{flat_map, position_or_len}
use Rattle.std.specs.Fmt.{decimal}
use Rattle.planus_cli.specs.Shown.{shown}
use Rattle.planus_syntax.specs.declared.lexer.LexFault.{LexFault}
use Rattle.planus_syntax.specs.declared.lexer.LexFault.TheVariants as lex
use Rattle.planus_syntax.specs.declared.parse_fault.ParseFault.{ParseFault}
use Rattle.planus_syntax.specs.declared.parse_fault.ParseFault.TheVariants as parse

abbrev pub is_feed : ℕ → Bool
is_feed b = b == 10

-- what follows the last line feed of the second, or else the first
abbrev pub after_last_feed : List ℕ → List ℕ → List ℕ
after_last_feed front [] = front
after_last_feed front (b ∷ bs) = after_last_feed (if is_feed b then bs else front) bs

abbrev pub last_line : List ℕ → List ℕ
last_line bytes = after_last_feed bytes bytes

-- a line feed, or a carriage return
abbrev pub ends_line : ℕ → Bool
ends_line b = b == 10 || b == 13

abbrev pub first_line : List ℕ → List ℕ
first_line bytes = take (position_or_len ends_line bytes) bytes

-- how many bytes of a line are shown on either side of a place
abbrev pub most_beside : ℕ
most_beside = 80

-- the end of what is before a place, after dots if that is cut
abbrev pub front_shown : List ℕ → List ℕ
front_shown front = if nat_lt most_beside (length front)
    then codes "..." ++ shown (drop (length front - most_beside) front) else shown front

-- the start of what is after a place, before dots if that is cut
abbrev pub rest_shown : List ℕ → List ℕ
rest_shown rest = if nat_lt most_beside (length rest)
    then shown (take most_beside rest) ++ codes "..." else shown rest

-- a tab below a tab, else a space below each character, whose first byte is no 128 to 191
abbrev pub below : ℕ → List ℕ
below b = if b == 9 then 9 ∷ [] else (if is_in_range 128 191 b then [] else 32 ∷ [])

-- the line of the place after these bytes, from 1
abbrev pub line_number : List ℕ → ℕ
line_number before = 1 + count_by is_feed before

-- its column in bytes, from 1
abbrev pub column_number : List ℕ → ℕ
column_number before = 1 + length (last_line before)

-- the line and the column
abbrev pub place_text : List ℕ → List ℕ → List ℕ
place_text name before =
    name ++ (codes ":" ++ (decimal (line_number before)
    ++ (codes ":" ++ (decimal (column_number before) ++ codes ": "))))

-- a line, and a mark below the end of its front
abbrev pub marked_text : List ℕ → List ℕ → List ℕ
marked_text front rest = front_shown front ++ (rest_shown (first_line rest)
    ++ (codes "\n" ++ (flat_map below (front_shown front) ++ codes "^\n")))

-- the report of a fault at the byte with this index
abbrev pub report_text : List ℕ → List ℕ → ℕ → List ℕ → List ℕ
report_text name text at message =
    shown (place_text name (take at text)) ++ (shown message ++ (codes "\n"
    ++ marked_text (last_line (take at text)) (drop at text)))

abbrev pub lex_message : LexFault → List ℕ
lex_message lex.BadNumber = codes "the number that ends here is malformed"
lex_message lex.OpenString = codes "the string has no end on its line"
lex_message lex.Escape = codes "the escape in the string is malformed, or its bytes are no UTF-8"
lex_message lex.Control = codes "a control character, as a tab, is in the string"
lex_message lex.NotUtf8 = codes "the string that ends here is not UTF-8"
lex_message lex.OpenComment = codes "the comment has no end"
lex_message lex.Strange = codes "unexpected character"

abbrev pub mark_message : ℕ → List ℕ
mark_message m =
    if m == 123 then codes "expected `{`"
    else if m == 125 then codes "expected `}`"
    else if m == 40 then codes "expected `(`"
    else if m == 41 then codes "expected `,` or `)`"
    else if m == 93 then codes "expected `]`"
    else if m == 58 then codes "expected `:`"
    else if m == 59 then codes "expected `;`"
    else codes "expected another mark"

abbrev pub parse_message : ParseFault → List ℕ
parse_message (parse.Mark m) = mark_message m
parse_message parse.Word = codes "expected a name"
parse_message parse.Number = codes "expected an integer"
parse_message parse.Text = codes "expected a string"
parse_message parse.Literal = codes "expected a value"
parse_message parse.Declaration = codes "expected a declaration, as `table`, `struct` or `enum`"
