-- The steps of an input, line by line.
use Rattle.std.specs.Prelude.{ℕ, ◌+◌, ◌*◌, ◌==◌, ◌&&◌, Bool, true, false, List, [], ◌∷◌, map}
use Rattle.std.specs.Prelude.{length, min, Option, Some, None, Result, Ok, Err, if◌then◌else◌, codes}
use Rattle.std.specs.List.{slice_split, after_first, list_all}
use Rattle.std.specs.Char.{is_digit, digit_value}
use Rattle.std.specs.Option.{option_map, option_or}
use Rattle.std.specs.Int.{is_in_range}
use Rattle.std.specs.Str.{is_utf8, bytes_eq}
use Rattle.planus.specs.Steps.{Step, text, bytes, numbers, refs, unions, struct, table, finish}
use Rattle.planus.specs.Steps.{clear}
use Rattle.planus.specs.Steps.{Front, front_of, bare_field}
use Rattle.planus.specs.declared.replaying.steps.Field.{Field}
use Rattle.planus_script.specs.Words.{words_of, number_of, numbers_of}
use Rattle.planus_script.specs.Fields.{fields_of}
use Rattle.planus_script.specs.Unions.{unions_of}
use Rattle.planus_script.specs.declared.script.Command.{Command}
use Rattle.planus_script.specs.declared.script.Command.TheVariants as named
use Rattle.planus_script.specs.declared.script.ReadFault.{ReadFault}
use Rattle.planus_script.specs.declared.script.ReadFault.TheVariants.{NotUtf8, UnknownCommand}
use Rattle.planus_script.specs.declared.script.ReadFault.TheVariants.{BadHex, BadIdentifier}

-- line feeds separate them
abbrev pub lines_of : List ℕ → List (List ℕ)
lines_of input = slice_split (λ b. b == 10) input

-- empty lines and comments are no steps
abbrev pub is_skipped : List ℕ → Bool
is_skipped [] = true
is_skipped (b ∷ bs) = b == 35

-- four bytes from `21` to `7e` hexadecimal
abbrev pub is_identifier : List ℕ → Bool
is_identifier word = length word == 4 && list_all (is_in_range 33 126) word

abbrev pub identifier_of : List ℕ → Result (List ℕ) ReadFault
identifier_of word = if is_identifier word then Ok word else Err BadIdentifier

abbrev pub finish_at : Front → Result ℕ ReadFault → Result Step ReadFault
finish_at front (Ok root) = Ok (finish front root None)
finish_at front (Err fault) = Err fault

abbrev pub finish_with : Front → ℕ → Result (List ℕ) ReadFault → Result Step ReadFault
finish_with front root (Ok identifier) = Ok (finish front root (Some identifier))
finish_with front root (Err fault) = Err fault

abbrev pub identified_at : Front → Result ℕ ReadFault → Result (List ℕ) ReadFault
    → Result Step ReadFault
identified_at front (Ok root) identifier = finish_with front root identifier
identified_at front (Err fault) identifier = Err fault

-- `finish I` or `finish I ABCD`, and `sized I` or `sized I ABCD`
abbrev pub finish_of : Front → List (List ℕ) → Result Step ReadFault
finish_of front [] = Err UnknownCommand
finish_of front (root ∷ []) = finish_at front (number_of root)
finish_of front (root ∷ identifier ∷ []) =
    identified_at front (number_of root) (identifier_of identifier)
finish_of front (root ∷ identifier ∷ more ∷ words) = Err UnknownCommand

-- `clear`
abbrev pub clear_of : List (List ℕ) → Result Step ReadFault
clear_of [] = Ok clear
clear_of (word ∷ words) = Err UnknownCommand

-- two hexadecimal digits of either case
abbrev pub byte_of : ℕ → ℕ → Option ℕ
byte_of high low =
    if is_digit high 16 && is_digit low 16 then Some (digit_value high * 16 + digit_value low)
    else None

abbrev pub onto_bytes : Option ℕ → Option (List ℕ) → Option (List ℕ)
onto_bytes None more = None
onto_bytes (Some byte) more = option_map (λ bytes. byte ∷ bytes) more

-- an even number of hexadecimal digits
abbrev pub hex_bytes : List ℕ → Option (List ℕ)
hex_bytes [] = Some []
hex_bytes (digit ∷ []) = None
hex_bytes (high ∷ low ∷ digits) = onto_bytes (byte_of high low) (hex_bytes digits)

abbrev pub bytes_step : Option (List ℕ) → Result Step ReadFault
bytes_step None = Err BadHex
bytes_step (Some content) = Ok (bytes content)

abbrev pub bytes_in : List ℕ → Option (List ℕ)
bytes_in [] = None
bytes_in (digit ∷ digits) = hex_bytes (digit ∷ digits)

-- `bytes` or `bytes HEX`
abbrev pub bytes_of : List (List ℕ) → Result Step ReadFault
bytes_of [] = Ok (bytes [])
bytes_of (word ∷ []) = bytes_step (bytes_in word)
bytes_of (word ∷ more ∷ words) = Err BadHex

-- above 255 it is 255, which is unknown as well
abbrev pub alignment_of : ℕ → ℕ
alignment_of number = min number 255

-- the number's error comes before the other
abbrev pub struct_with : Result ℕ ReadFault → Option (List ℕ) → Result Step ReadFault
struct_with (Err fault) content = Err fault
struct_with (Ok alignment) None = Err BadHex
struct_with (Ok alignment) (Some content) = Ok (struct (alignment_of alignment) content)

-- `struct A HEX`
abbrev pub struct_of : List (List ℕ) → Result Step ReadFault
struct_of (alignment ∷ digits ∷ []) = struct_with (number_of alignment) (bytes_in digits)
struct_of _ = Err UnknownCommand

abbrev pub list_step : {A : Type 0} → (List A → Step) → Result (List A) ReadFault
    → Result Step ReadFault
list_step step (Ok items) = Ok (step items)
list_step step (Err fault) = Err fault

abbrev pub table_step : List Field → Step
table_step fields = table (map bare_field fields)

abbrev pub contents_named : List ℕ → Option Command
contents_named word =
    if bytes_eq word (codes "text") then Some named.Text
    else if bytes_eq word (codes "bytes") then Some named.Bytes
    else if bytes_eq word (codes "u16") then Some (named.Numbers 2)
    else if bytes_eq word (codes "u32") then Some (named.Numbers 4)
    else if bytes_eq word (codes "u64") then Some (named.Numbers 8) else None

abbrev pub steps_named : List ℕ → Option Command
steps_named word =
    if bytes_eq word (codes "refs") then Some named.Refs
    else if bytes_eq word (codes "unions") then Some named.Unions
    else if bytes_eq word (codes "struct") then Some named.Struct
    else if bytes_eq word (codes "table") then Some named.Table
    else if bytes_eq word (codes "finish") then Some (named.Finish false)
    else if bytes_eq word (codes "sized") then Some (named.Finish true)
    else if bytes_eq word (codes "clear") then Some named.Clear else None

abbrev pub command_named : List ℕ → Option Command
command_named word = option_or (contents_named word) (steps_named word)

abbrev pub step_by : Command → List ℕ → List (List ℕ) → Result Step ReadFault
step_by named.Text behind words = Ok (text behind)
step_by named.Bytes behind words = bytes_of words
step_by (named.Numbers width) behind words = list_step (numbers width) (numbers_of words)
step_by named.Refs behind words = list_step refs (numbers_of words)
step_by named.Unions behind words = list_step unions (unions_of words)
step_by named.Struct behind words = struct_of words
step_by named.Table behind words = list_step table_step (fields_of words)
step_by (named.Finish sized) behind words = finish_of (front_of sized) words
step_by named.Clear behind words = clear_of words

abbrev pub step_if : Option Command → List ℕ → List (List ℕ) → Result Step ReadFault
step_if None behind words = Err UnknownCommand
step_if (Some command) behind words = step_by command behind words

abbrev pub command_of_words : List ℕ → List (List ℕ) → Result Step ReadFault
command_of_words line [] = Err UnknownCommand
command_of_words line (word ∷ words) =
    step_if (command_named word) (after_first (λ b. b == 32) line) words

-- The step of a line, or its first error.
abbrev pub command_of : List ℕ → Result Step ReadFault
command_of line = if is_utf8 line then command_of_words line (words_of line) else Err NotUtf8

-- the steps of a script, each with the number of its line
pub record Read : Type 0 where
  pub numbers : List ℕ
  pub commands : List Step

abbrev pub onto_read : ℕ → Step → Result Read (ℕ × ReadFault) → Result Read (ℕ × ReadFault)
onto_read number command (Ok read) =
    Ok (record { numbers = number ∷ read.numbers; commands = command ∷ read.commands })
onto_read number command (Err fault) = Err fault

abbrev pub then_read : ℕ → Result Step ReadFault → Result Read (ℕ × ReadFault)
    → Result Read (ℕ × ReadFault)
then_read number (Ok command) more = onto_read number command more
then_read number (Err fault) more = Err (number, fault)

-- The steps of the lines from this number on, or the first line with an error.
abbrev pub read_lines : ℕ → List (List ℕ) → Result Read (ℕ × ReadFault)
read_lines number [] = Ok (record { numbers = []; commands = [] })
read_lines number (line ∷ lines) =
    if is_skipped line then read_lines (number + 1) lines else then_read number (command_of line)
    (read_lines (number + 1) lines)

-- Lines count from 1, skipped ones included.
abbrev pub script_of : List ℕ → Result Read (ℕ × ReadFault)
script_of input = read_lines 1 (lines_of input)
