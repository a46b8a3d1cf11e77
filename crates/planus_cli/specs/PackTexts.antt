-- The messages of faults of JSON that is packed.
use Rattle.std.specs.Prelude.{ℕ, ◌==◌, Bool, true, false, not, List, [], ◌∷◌, ◌++◌, codes, take, drop}
use Rattle.std.specs.Prelude.{if◌then◌else◌}
use Rattle.std.specs.List.{position_or_len}
use Rattle.planus.specs.Texts.{why_text}
use Rattle.planus.specs.declared.replaying.faults.ReplayError.{ReplayError}
use Rattle.planus.specs.declared.replaying.faults.ReplayError.TheVariants as replays
use Rattle.planus_json_syntax.specs.Tokens.{is_word_byte}
use Rattle.planus_pack.specs.declared.pack_fault.PackFault.{PackFault}
use Rattle.planus_pack.specs.declared.pack_fault.PackFault.TheVariants as fault
use Rattle.planus_cli.specs.Paths.{lead_of}
use Rattle.planus_cli.specs.Reports.{rest_shown}

-- a word ends before this byte: within quotes before the next quote
abbrev pub ends_word : Bool → ℕ → Bool
ends_word true b = b == 34
ends_word false b = not (is_word_byte b)

abbrev pub front_word : Bool → List ℕ → List ℕ
front_word quoted bytes = take (position_or_len (ends_word quoted) bytes) bytes

-- what a string with which a text begins has between its quotes, or the word with which it begins,
-- or the mark
abbrev pub word_of : List ℕ → List ℕ
word_of [] = []
word_of (b ∷ bs) = if b == 34 then front_word true bs
    else if is_word_byte b then front_word false (b ∷ bs) else b ∷ []

-- a message that begins with a word, of which at most 80 bytes are shown
abbrev pub about : List ℕ → List ℕ → List ℕ
about word after = codes "`" ++ (rest_shown word ++ (codes "`" ++ after))

-- of a fault whose word is this
abbrev pub kind_message : PackFault → List ℕ → List ℕ
kind_message fault.WrongKind word =
    codes "the value isn't what its type wants: an object for a table or a struct, a list for a vector or an array, a string for a string"
kind_message fault.UnknownKey word = codes "the type has no field of this name"
kind_message fault.GivenTwice word = codes "the key is given twice"
kind_message fault.MissingField word =
    codes "a required field of the table, or a field of the struct, is missing"
kind_message fault.LoneUnion word = codes "a union has its type and no value, or its value and no type"
kind_message fault.TooDeep word = codes "tables or structs nest deeper than 64"
kind_message fault.NotANumber word = about word (codes " is no number of the type")
kind_message fault.OutOfRange word = about word (codes " doesn't fit the type")
kind_message fault.UnknownName word =
    about word (codes " is no value of the enum, or member of the union")
kind_message fault.WrongLength word = codes "the list hasn't as many items as the array, or as the unions have types"
kind_message fault.Unsupported word =
    codes "the type of the field isn't supported by planus binary"

-- of a fault whose word begins at a place of the text
abbrev pub bare_message : PackFault → List ℕ → ℕ → List ℕ
bare_message kind text at = kind_message kind (word_of (drop at text))

-- of a fault of a value, or of the key of a member, that begins at a place of the text, after the
-- path to it
abbrev pub fault_message : PackFault → List ℕ → ℕ → List ℕ
fault_message kind text at = lead_of text at ++ bare_message kind text at

-- where a text of this length has no value, or a second one
abbrev pub not_one_message : ℕ → ℕ → List ℕ
not_one_message len at = if at == len then codes "a value is expected"
    else codes "a second value begins here; see --size-prefixed"

-- why a buffer isn't written, after the text's name
abbrev pub unwritten_message : ReplayError → List ℕ
unwritten_message replays.OutOfMemory = codes ": memory is refused"
unwritten_message replays.TooLarge = codes ": its buffer is longer than 2147483647 bytes"
unwritten_message (replays.BadStep step why) =
    codes ": its buffer can't be written: " ++ why_text why
