-- What the words after the program's name ask for.
use Rattle.std.specs.Prelude.{ℕ, Bool, true, false, ◌&&◌, ◌||◌, ◌==◌, nat_lt, List, [], ◌∷◌, ◌++◌}
use Rattle.std.specs.Prelude.{fold, map, length, codes, slice_index, Option, Some, None, take}
use Rattle.std.specs.Prelude.{if◌then◌else◌, not, nat_eq, drop}
use Rattle.std.specs.Option.{option_and_then, option_map, option_or, unwrap_or}
use Rattle.std.specs.List.{list_any, position_or_len, starts_with}
use Rattle.std.specs.Str.{bytes_eq}
use Rattle.planus_schema.specs.Numbers.{integer_said, without_mark, without_sign}
use Rattle.planus_schema.specs.declared.number.Number.{Number}
use Rattle.planus_cli.specs.declared.arguments.Command.{Command}
use Rattle.planus_cli.specs.declared.arguments.Command.TheVariants.{Check, Format, View}
use Rattle.planus_cli.specs.declared.arguments.Command.TheVariants.{Rattle as RattleCommand}
use Rattle.planus_cli.specs.declared.arguments.Command.TheVariants.{Json as JsonCommand}
use Rattle.planus_cli.specs.declared.arguments.Command.TheVariants.{Binary}
use Rattle.planus_cli.specs.declared.arguments.Command.TheVariants.{Dot, Conform, Completions}
use Rattle.planus_cli.specs.declared.arguments.Shell.{Shell}
use Rattle.planus_cli.specs.declared.arguments.Shell.TheVariants.{Bash, Zsh, Fish}
use Rattle.planus_cli.specs.declared.arguments.Choice.{Choice}
use Rattle.planus_cli.specs.declared.arguments.Choice.TheVariants.{Folder, Write}
use Rattle.planus_cli.specs.declared.arguments.Choice.TheVariants.{Root, SizePrefixed, Lines}
use Rattle.planus_cli.specs.declared.arguments.Choice.TheVariants.{Bytes, Output}
use Rattle.planus_cli.specs.declared.arguments.Choice.TheVariants.{Compact, Strict}
use Rattle.planus_cli.specs.declared.arguments.Choice.TheVariants.{Check as CheckChoice}
use Rattle.planus_cli.specs.declared.arguments.Choice.TheVariants.{NoVerified, Backward, Forward}
use Rattle.planus_cli.specs.declared.arguments.Choice.TheVariants.{Rename, Against, Json}
use Rattle.planus_cli.specs.declared.arguments.Choice.TheVariants.{Foreign, OutputFile}
use Rattle.planus_cli.specs.declared.arguments.Choice.TheVariants.{Identifier, Share}
use Rattle.planus_cli.specs.declared.arguments.Choice.TheVariants.{OmitDefaults, SkipUnknown}
use Rattle.planus_cli.specs.declared.arguments.Choice.TheVariants.{Help as HelpChoice}
use Rattle.planus_cli.specs.declared.arguments.Joined.{Joined}
use Rattle.planus_cli.specs.declared.arguments.Words.{Words}
use Rattle.planus_cli.specs.declared.arguments.Request.{Request}
use Rattle.planus_cli.specs.declared.arguments.Request.TheVariants as code

pub record WordsV : Type 0 where
  pub files : List (List ℕ)
  pub folders : List (List ℕ)
  pub write : Bool
  pub root : Option (List ℕ)
  pub size_prefixed : Bool
  pub lines : Option (List ℕ)
  pub bytes : Option (List ℕ)
  pub compact : Bool
  pub strict : Bool
  pub output : Option (List ℕ)
  pub output_file : Option (List ℕ)
  pub identifier : Bool
  pub share : Bool
  pub omit_defaults : Bool
  pub skip_unknown : Bool
  pub check : Bool
  pub no_verified : Bool
  pub foreign : Option (List ℕ)
  pub backward : Bool
  pub forward : Bool
  pub renames : List (List ℕ)
  pub against : Option (List ℕ)
  pub json : Bool
  pub help : Bool
  pub only_files : Bool
  pub wants : Option Choice
  pub unknown : Option (List ℕ)

abbrev pub no_words : WordsV
no_words = record {
  files = [];
  folders = [];
  write = false;
  root = None;
  size_prefixed = false;
  lines = None;
  bytes = None;
  compact = false;
  strict = false;
  output = None;
  output_file = None;
  identifier = false;
  share = false;
  omit_defaults = false;
  skip_unknown = false;
  check = false;
  no_verified = false;
  foreign = None;
  backward = false;
  forward = false;
  renames = [];
  against = None;
  json = false;
  help = false;
  only_files = false;
  wants = None;
  unknown = None;
}

abbrev pub words_of : Words → WordsV
words_of w = record {
  files = map (λ s. s.now) w.files.items;
  folders = map (λ s. s.now) w.folders.items;
  write = w.write;
  root = option_map (λ s. s.now) w.root;
  size_prefixed = w.size_prefixed;
  lines = option_map (λ s. s.now) w.lines;
  bytes = option_map (λ s. s.now) w.bytes;
  compact = w.compact;
  strict = w.strict;
  output = option_map (λ s. s.now) w.output;
  output_file = option_map (λ s. s.now) w.output_file;
  identifier = w.identifier;
  share = w.share;
  omit_defaults = w.omit_defaults;
  skip_unknown = w.skip_unknown;
  check = w.check;
  no_verified = w.no_verified;
  foreign = option_map (λ s. s.now) w.foreign;
  backward = w.backward;
  forward = w.forward;
  renames = map (λ s. s.now) w.renames.items;
  against = option_map (λ s. s.now) w.against;
  json = w.json;
  help = w.help;
  only_files = w.only_files;
  wants = w.wants;
  unknown = option_map (λ s. s.now) w.unknown;
}

-- `-` alone names standard input
abbrev pub is_option : List ℕ → Bool
is_option w = nat_lt 1 (length w) && slice_index w 0 == 45

abbrev pub view_option : List ℕ → Option Choice
view_option w = if bytes_eq w (codes "-I") then Some Folder
    else if bytes_eq w (codes "--root") then Some Root
    else if bytes_eq w (codes "--size-prefixed") then Some SizePrefixed
    else if bytes_eq w (codes "--lines") then Some Lines
    else if bytes_eq w (codes "--bytes") then Some Bytes else None

abbrev pub json_option : List ℕ → Option Choice
json_option w = if bytes_eq w (codes "-I") then Some Folder
    else if bytes_eq w (codes "--root") then Some Root
    else if bytes_eq w (codes "--size-prefixed") then Some SizePrefixed
    else if bytes_eq w (codes "--compact") then Some Compact
    else if bytes_eq w (codes "--strict") then Some Strict
    else if bytes_eq w (codes "--bytes") then Some Bytes else None

abbrev pub binary_option : List ℕ → Option Choice
binary_option w = if bytes_eq w (codes "-I") then Some Folder
    else if bytes_eq w (codes "-o") then Some OutputFile
    else if bytes_eq w (codes "--root") then Some Root
    else if bytes_eq w (codes "--size-prefixed") then Some SizePrefixed
    else if bytes_eq w (codes "--identifier") then Some Identifier
    else if bytes_eq w (codes "--share") then Some Share
    else if bytes_eq w (codes "--omit-defaults") then Some OmitDefaults
    else if bytes_eq w (codes "--skip-unknown") then Some SkipUnknown
    else if bytes_eq w (codes "--bytes") then Some Bytes else None

abbrev pub rattle_option : List ℕ → Option Choice
rattle_option w = if bytes_eq w (codes "-I") then Some Folder
    else if bytes_eq w (codes "-o") then Some Output
    else if bytes_eq w (codes "--check") then Some CheckChoice
    else if bytes_eq w (codes "--no-verified") then Some NoVerified
    else if bytes_eq w (codes "--c") then Some Foreign else None

abbrev pub conform_option : List ℕ → Option Choice
conform_option w = if bytes_eq w (codes "-I") then Some Folder
    else if bytes_eq w (codes "--backward") then Some Backward
    else if bytes_eq w (codes "--forward") then Some Forward
    else if bytes_eq w (codes "--rename") then Some Rename
    else if bytes_eq w (codes "--against") then Some Against
    else if bytes_eq w (codes "--json") then Some Json else None

-- `--help`, or `-h`
abbrev pub is_help : List ℕ → Bool
is_help w = bytes_eq w (codes "--help") || bytes_eq w (codes "-h")

-- `--version`, or `-V`
abbrev pub is_version : List ℕ → Bool
is_version w = bytes_eq w (codes "--version") || bytes_eq w (codes "-V")

abbrev pub option_of : Command → List ℕ → Option Choice
option_of command w = if is_help w then Some HelpChoice else option_in command
  where
    option_in : Command → Option Choice
    option_in Check = if bytes_eq w (codes "-I") then Some Folder else None
    option_in Format = if bytes_eq w (codes "--write") then Some Write
        else if bytes_eq w (codes "--check") then Some CheckChoice else None
    option_in View = view_option w
    option_in JsonCommand = json_option w
    option_in Binary = binary_option w
    option_in RattleCommand = rattle_option w
    option_in Conform = conform_option w
    option_in Dot = if bytes_eq w (codes "-I") then Some Folder else None
    option_in Completions = None

-- an option, and its value in the same word
pub record JoinedV : Type 0 where
  pub choice : Choice
  pub value : List ℕ

abbrev pub joined_view : Joined → JoinedV
joined_view joined = record { choice = joined.choice; value = joined.value.now }

-- the value is what follows this beginning of the word
abbrev pub joined_by : Choice → List ℕ → List ℕ → Option JoinedV
joined_by choice start w = if starts_with nat_eq w start
    then Some (record { choice = choice; value = drop (length start) w }) else None

abbrev pub joined_in : Command → List ℕ → Option JoinedV
joined_in Check w = joined_by Folder (codes "-I") w
joined_in Dot w = joined_by Folder (codes "-I") w
joined_in Format w = None
joined_in Completions w = None
joined_in View w = option_or (joined_by Folder (codes "-I") w)
    (option_or (joined_by Root (codes "--root=") w)
    (option_or (joined_by Lines (codes "--lines=") w) (joined_by Bytes (codes "--bytes=") w)))
joined_in JsonCommand w = option_or (joined_by Folder (codes "-I") w)
    (option_or (joined_by Root (codes "--root=") w) (joined_by Bytes (codes "--bytes=") w))
joined_in Binary w = option_or (joined_by Folder (codes "-I") w)
    (option_or (joined_by OutputFile (codes "-o") w)
    (option_or (joined_by Root (codes "--root=") w) (joined_by Bytes (codes "--bytes=") w)))
joined_in RattleCommand w = option_or (joined_by Folder (codes "-I") w)
    (option_or (joined_by Output (codes "-o") w) (joined_by Foreign (codes "--c=") w))
joined_in Conform w = option_or (joined_by Folder (codes "-I") w)
    (option_or (joined_by Rename (codes "--rename=") w) (joined_by Against (codes "--against=") w))

abbrev pub or_first : Option (List ℕ) → List ℕ → Option (List ℕ)
or_first None w = Some w
or_first (Some u) w = Some u

abbrev pub with_choice : WordsV → Choice → WordsV
with_choice ws Folder = record ws { wants = Some Folder }
with_choice ws Root = record ws { wants = Some Root }
with_choice ws Lines = record ws { wants = Some Lines }
with_choice ws Bytes = record ws { wants = Some Bytes }
with_choice ws Output = record ws { wants = Some Output }
with_choice ws OutputFile = record ws { wants = Some OutputFile }
with_choice ws Rename = record ws { wants = Some Rename }
with_choice ws Against = record ws { wants = Some Against }
with_choice ws Foreign = record ws { wants = Some Foreign }
with_choice ws Backward = record ws { backward = true }
with_choice ws Forward = record ws { forward = true }
with_choice ws Json = record ws { json = true }
with_choice ws SizePrefixed = record ws { size_prefixed = true }
with_choice ws Compact = record ws { compact = true }
with_choice ws Strict = record ws { strict = true }
with_choice ws Identifier = record ws { identifier = true }
with_choice ws Share = record ws { share = true }
with_choice ws OmitDefaults = record ws { omit_defaults = true }
with_choice ws SkipUnknown = record ws { skip_unknown = true }
with_choice ws CheckChoice = record ws { check = true }
with_choice ws NoVerified = record ws { no_verified = true }
with_choice ws Write = record ws { write = true }
with_choice ws HelpChoice = record ws { help = true }

-- the value of an option
abbrev pub with_value : WordsV → Choice → List ℕ → WordsV
with_value ws Folder w = record ws { folders = ws.folders ++ w ∷ [] }
with_value ws Root w = record ws { root = Some w }
with_value ws Lines w = record ws { lines = Some w }
with_value ws Bytes w = record ws { bytes = Some w }
with_value ws Output w = record ws { output = Some w }
with_value ws OutputFile w = record ws { output_file = Some w }
with_value ws Rename w = record ws { renames = ws.renames ++ w ∷ [] }
with_value ws Against w = record ws { against = Some w }
with_value ws Foreign w = record ws { foreign = Some w }
with_value ws Write w = ws
with_value ws SizePrefixed w = ws
with_value ws Compact w = ws
with_value ws Strict w = ws
with_value ws Identifier w = ws
with_value ws Share w = ws
with_value ws OmitDefaults w = ws
with_value ws SkipUnknown w = ws
with_value ws CheckChoice w = ws
with_value ws NoVerified w = ws
with_value ws Backward w = ws
with_value ws Forward w = ws
with_value ws Json w = ws
with_value ws HelpChoice w = ws

abbrev pub with_joined : WordsV → List ℕ → Option JoinedV → WordsV
with_joined ws w (Some joined) = with_value ws joined.choice joined.value
with_joined ws w None = record ws { unknown = or_first ws.unknown w }

-- the value of an option is the next word, or in the same one
abbrev pub with_option : Command → WordsV → List ℕ → WordsV
with_option command ws w = by_choice (option_of command w)
  where
    by_choice : Option Choice → WordsV
    by_choice (Some choice) = with_choice ws choice
    by_choice None = with_joined ws w (joined_in command w)

abbrev pub with_word : Command → WordsV → List ℕ → WordsV
with_word command ws w = by_want ws.wants
  where
    by_want : Option Choice → WordsV
    by_want (Some choice) = with_value (record ws { wants = None }) choice w
    by_want None = if ws.only_files || not (is_option w)
        then record ws { files = ws.files ++ w ∷ [] }
        else if bytes_eq w (codes "--") then record ws { only_files = true }
        else with_option command ws w

abbrev pub is_empty_word : List ℕ → Bool
is_empty_word [] = true
is_empty_word (b ∷ bs) = false

-- present, and empty
abbrev pub is_empty_value : Option (List ℕ) → Bool
is_empty_value None = false
is_empty_value (Some w) = is_empty_word w

-- the first option whose value is empty
abbrev pub empty_choice : WordsV → Option Choice
empty_choice ws = if list_any is_empty_word ws.folders then Some Folder
    else if is_empty_value ws.root then Some Root
    else if is_empty_value ws.lines then Some Lines
    else if is_empty_value ws.bytes then Some Bytes
    else if is_empty_value ws.output then Some Output
    else if is_empty_value ws.output_file then Some OutputFile
    else if is_empty_value ws.against then Some Against
    else if is_empty_value ws.foreign then Some Foreign else None

abbrev pub is_equals : ℕ → Bool
is_equals b = b == 61

-- what comes before the first `=`, or all
abbrev pub before_equals : List ℕ → List ℕ
before_equals w = take (position_or_len is_equals w) w

abbrev pub after_first : List ℕ → List ℕ
after_first [] = []
after_first (b ∷ bs) = bs

-- what follows the first `=`, or nothing
abbrev pub after_equals : List ℕ → List ℕ
after_equals w = after_first (drop (length (before_equals w)) w)

-- two names with `=` between them
abbrev pub is_rename : List ℕ → Bool
is_rename w = not (is_empty_word (before_equals w)) && not (is_empty_word (after_equals w))

-- the first that isn't
abbrev pub wrong_rename : List (List ℕ) → Option (List ℕ)
wrong_rename [] = None
wrong_rename (w ∷ ws) = if is_rename w then wrong_rename ws else Some w

abbrev pub not_negative : Option Number → Option ℕ
not_negative None = None
not_negative (Some n) = if n.negative then None else Some n.magnitude

-- what follows a sign and the mark of a hexadecimal number
abbrev pub digits_of : List ℕ → List ℕ
digits_of w = without_mark (without_sign w)

-- a number has a digit
abbrev pub number_of : List ℕ → Option ℕ
number_of w = if is_empty_word (digits_of w) then None else not_negative (integer_said w)

-- the number of a word, if there is one
abbrev pub limit_of : Option (List ℕ) → ℕ → ℕ
limit_of word otherwise = unwrap_or (option_and_then number_of word) otherwise

abbrev pub is_none : Option ℕ → Bool
is_none None = true
is_none (Some n) = false

-- present, and no number
abbrev pub is_no_number : Option (List ℕ) → Bool
is_no_number None = false
is_no_number (Some w) = is_none (number_of w)

-- what is asked for, or why the call is wrong
pub data Asked : Type 0 where
  help : Asked
  help_of : Command → Asked
  version : Asked
  run : Command → WordsV → Asked
  no_command : Asked
  unknown_command : List ℕ → Asked
  unknown_option : Command → List ℕ → Asked
  no_value : Command → Choice → Asked
  no_schema : Command → Asked
  no_buffer : Command → Asked
  empty_value : Command → Choice → Asked
  empty_file : Command → Asked
  input_twice : Command → Asked
  no_number : Command → Choice → List ℕ → Asked
  several_schemas : Command → Asked
  no_output : Asked
  write_and_check : Asked
  no_pair : Asked
  backward_and_forward : Asked
  no_rename : List ℕ → Asked
  completions : Shell → Asked
  no_shell : Asked

abbrev pub asked : Request → Asked
asked code.Help = help
asked (code.HelpOf command) = help_of command
asked code.Version = version
asked (code.Run command words) = run command (words_of words)
asked code.NoCommand = no_command
asked (code.UnknownCommand w) = unknown_command w.now
asked (code.UnknownOption command w) = unknown_option command w.now
asked (code.NoValue command choice) = no_value command choice
asked (code.NoSchema command) = no_schema command
asked (code.NoBuffer command) = no_buffer command
asked (code.EmptyValue command choice) = empty_value command choice
asked (code.EmptyFile command) = empty_file command
asked (code.InputTwice command) = input_twice command
asked (code.NoNumber command choice w) = no_number command choice w.now
asked (code.SeveralSchemas command) = several_schemas command
asked code.NoOutput = no_output
asked code.WriteAndCheck = write_and_check
asked code.NoPair = no_pair
asked code.BackwardAndForward = backward_and_forward
asked (code.NoRename w) = no_rename w.now
asked (code.Completions shell) = completions shell
asked code.NoShell = no_shell

abbrev pub is_empty : List (List ℕ) → Bool
is_empty [] = true
is_empty (x ∷ xs) = false

-- `view`, `json` and `binary` need a schema, a buffer or JSON, and numbers
abbrev pub buffer_request : Command → WordsV → Asked
buffer_request command ws = if not (length ws.files == 2) then no_buffer command
    else if is_no_number ws.lines then no_number command Lines (unwrap_or ws.lines [])
    else if is_no_number ws.bytes then no_number command Bytes (unwrap_or ws.bytes [])
    else run command ws

abbrev pub run_with : Option (List ℕ) → WordsV → Asked
run_with None ws = no_output
run_with (Some folder) ws = run RattleCommand ws

-- `rattle` needs one schema and a folder
abbrev pub rattle_request : WordsV → Asked
rattle_request ws = if not (length ws.files == 1) then several_schemas RattleCommand
    else run_with ws.output ws

-- `dot` needs one schema
abbrev pub dot_request : WordsV → Asked
dot_request ws = if length ws.files == 1 then run Dot ws else several_schemas Dot

-- `format` writes files or compares them
abbrev pub format_request : WordsV → Asked
format_request ws = if ws.write && ws.check then write_and_check else run Format ws

abbrev pub run_renamed : Option (List ℕ) → WordsV → Asked
run_renamed None ws = run Conform ws
run_renamed (Some w) ws = no_rename w

abbrev pub is_absent : Option (List ℕ) → Bool
is_absent None = true
is_absent (Some w) = false

-- `conform` needs two schemas, or a folder; it looks in one direction or both, and renames one name
-- to another
abbrev pub conform_request : WordsV → Asked
conform_request ws = if is_absent ws.against && not (length ws.files == 2) then no_pair
    else if ws.backward && ws.forward then backward_and_forward
    else run_renamed (wrong_rename ws.renames) ws

abbrev pub shell_of : List ℕ → Option Shell
shell_of w = if bytes_eq w (codes "bash") then Some Bash
    else if bytes_eq w (codes "zsh") then Some Zsh
    else if bytes_eq w (codes "fish") then Some Fish else None

abbrev pub script_or : Option Shell → Asked
script_or None = no_shell
script_or (Some shell) = completions shell

-- `completions` needs one shell
abbrev pub completions_request : List (List ℕ) → Asked
completions_request [] = no_shell
completions_request (w ∷ []) = script_or (shell_of w)
completions_request (w ∷ v ∷ ws) = no_shell

abbrev pub run_request : Command → WordsV → Asked
run_request Check ws = run Check ws
run_request Format ws = format_request ws
run_request View ws = buffer_request View ws
run_request JsonCommand ws = buffer_request JsonCommand ws
run_request Binary ws = buffer_request Binary ws
run_request RattleCommand ws = rattle_request ws
run_request Dot ws = dot_request ws
run_request Conform ws = conform_request ws
run_request Completions ws = completions_request ws.files

-- more words than one are standard input, one of which was found before or not
abbrev pub has_input_twice : Bool → List (List ℕ) → Bool
has_input_twice found [] = false
has_input_twice found (w ∷ ws) = if bytes_eq w (codes "-")
    then (if found then true else has_input_twice true ws) else has_input_twice found ws

abbrev pub request_by : Command → WordsV → Asked
request_by command ws = unknown_or ws.unknown
  where
    empty_or : Option Choice → Asked
    empty_or (Some choice) = empty_value command choice
    empty_or None = if list_any is_empty_word ws.files then empty_file command
        else if has_input_twice false ws.files then input_twice command
        else if is_empty ws.files then no_schema command else run_request command ws

    value_or : Option Choice → Asked
    value_or (Some choice) = no_value command choice
    value_or None = empty_or (empty_choice ws)

    unknown_or : Option (List ℕ) → Asked
    unknown_or (Some w) = unknown_option command w
    unknown_or None = if ws.help then help_of command else value_or ws.wants

abbrev pub command_of : List ℕ → Option Command
command_of w = if bytes_eq w (codes "check") then Some Check
    else if bytes_eq w (codes "format") then Some Format
    else if bytes_eq w (codes "view") then Some View
    else if bytes_eq w (codes "json") then Some JsonCommand
    else if bytes_eq w (codes "binary") then Some Binary
    else if bytes_eq w (codes "rattle") then Some RattleCommand
    else if bytes_eq w (codes "dot") then Some Dot
    else if bytes_eq w (codes "conform") then Some Conform
    else if bytes_eq w (codes "completions") then Some Completions else None

abbrev pub request_after : List ℕ → List (List ℕ) → Option Command → Asked
request_after w rest None = unknown_command w
request_after w rest (Some command) = request_by command (fold (with_word command) no_words rest)

abbrev pub help_by : List ℕ → Option Command → Asked
help_by w None = if bytes_eq w (codes "help") || is_help w then help else unknown_command w
help_by w (Some command) = help_of command

-- after `help`
abbrev pub help_request : List (List ℕ) → Asked
help_request [] = help
help_request (w ∷ rest) = help_by w (command_of w)

abbrev pub request_of : List (List ℕ) → Asked
request_of [] = no_command
request_of (w ∷ rest) = if bytes_eq w (codes "help") then help_request rest
    else if is_help w then help
    else if is_version w then version
    else request_after w rest (command_of w)
