-- Help, version, and messages for wrong calls.
use Rattle.std.specs.Prelude.{◌≡◌, ℕ, Bool, true, false, List, [], ◌∷◌, ◌++◌, codes}
use Rattle.std.specs.Prelude.{Option, Some, None}
use Rattle.std.specs.Io.KnownBytes.{Appends, Keeps}
use Rattle.planus_cli.specs.declared.arguments.Command.{Command}
use Rattle.planus_cli.specs.declared.arguments.Command.TheVariants.{Check, Format, View}
use Rattle.planus_cli.specs.declared.arguments.Command.TheVariants.{Rattle as RattleCommand}
use Rattle.planus_cli.specs.declared.arguments.Command.TheVariants.{Json as JsonCommand}
use Rattle.planus_cli.specs.declared.arguments.Command.TheVariants.{Binary}
use Rattle.planus_cli.specs.declared.arguments.Command.TheVariants.{Dot, Conform, Completions}
use Rattle.planus_cli.specs.Completions.{option_words, script_of}
use Rattle.planus_cli.specs.declared.arguments.Choice.{Choice}
use Rattle.planus_cli.specs.declared.arguments.Choice.TheVariants.{Root, Lines, Bytes, Output}
use Rattle.planus_cli.specs.declared.arguments.Choice.TheVariants.{Rename, Against, Foreign, OutputFile}
use Rattle.planus_cli.specs.declared.said.Said.{Said}
use Rattle.planus_cli.specs.Near.{nearest}
use Rattle.planus_cli.specs.Shown.{shown}
use Rattle.planus_cli.specs.Arguments.{Asked, help, help_of as help_asked, version, run}
use Rattle.planus_cli.specs.Arguments.{no_command, unknown_command, unknown_option}
use Rattle.planus_cli.specs.Arguments.{no_value, no_schema, no_buffer, no_number}
use Rattle.planus_cli.specs.Arguments.{empty_value, empty_file, input_twice}
use Rattle.planus_cli.specs.Arguments.{several_schemas, no_output, write_and_check}
use Rattle.planus_cli.specs.Arguments.{completions, no_shell, no_pair, backward_and_forward}
use Rattle.planus_cli.specs.Arguments.{no_rename, before_equals}

pub record SaidV : Type 0 where
  pub wrong : Bool
  pub text : List ℕ

abbrev pub said_view : Said → SaidV
said_view said = record { wrong = said.wrong; text = said.text.items }

-- the words that a call may begin with
unfoldable pub command_words : List (List ℕ)
command_words = codes "check" ∷ codes "format" ∷ codes "view" ∷ codes "json" ∷ codes "binary"
    ∷ codes "rattle" ∷ codes "dot" ∷ codes "conform" ∷ codes "completions" ∷ codes "help"
    ∷ codes "--help" ∷ codes "-h" ∷ codes "--version" ∷ codes "-V" ∷ []

-- what is said after a word that is no command or option: the nearest that is one, if one is near
abbrev pub call_hint : Option (List ℕ) → List ℕ
call_hint None = codes "see planus help"
call_hint (Some w) = codes "did you mean `" ++ (w ++ codes "`?")

abbrev pub version_text : List ℕ
version_text = codes "planus 0.1.0\n"

abbrev pub help_text : List ℕ
help_text = codes "planus reads schemas of flatbuffers, shows and packs buffers by them, and prints code.\n\nusage: planus check [-I FOLDER].. SCHEMA..\n       planus format [--write | --check] SCHEMA..\n       planus view [OPTION].. SCHEMA BUFFER\n       planus json [OPTION].. SCHEMA BUFFER\n       planus binary [OPTION].. SCHEMA JSON\n       planus rattle [--check] [--no-verified] [--c PREFIX] [-I FOLDER].. SCHEMA -o FOLDER\n       planus dot [-I FOLDER].. SCHEMA\n       planus conform [OPTION].. OLD NEW\n       planus conform [OPTION].. --against FOLDER SCHEMA..\n       planus completions bash|zsh|fish\n       planus help [COMMAND], planus [COMMAND] --help, planus --version\n\nSCHEMA, BUFFER, JSON, OLD and NEW are files, or - for standard input; after --, each\nword is one. The value of an option may be in the same word: -IFOLDER, -oFOLDER,\n--root=NAME. -h is --help, and -V is --version.\n"

-- the usage line of a command, with which its help begins, or of the program; what is said of a
-- wrong call ends with it
unfoldable pub usage_of : Option Command → List ℕ
usage_of None = codes "usage: planus COMMAND ..; the commands are check, format, view, json, binary, rattle, dot, conform, completions and help\n"
usage_of (Some Check) = codes "usage: planus check [-I FOLDER].. SCHEMA..\n"
usage_of (Some Format) = codes "usage: planus format [--write | --check] SCHEMA..\n"
usage_of (Some View) = codes "usage: planus view [OPTION].. SCHEMA BUFFER\n"
usage_of (Some JsonCommand) = codes "usage: planus json [OPTION].. SCHEMA BUFFER\n"
usage_of (Some Binary) = codes "usage: planus binary [OPTION].. SCHEMA JSON\n"
usage_of (Some RattleCommand) = codes "usage: planus rattle [--check] [--no-verified] [--c PREFIX] [-I FOLDER].. SCHEMA -o FOLDER\n"
usage_of (Some Dot) = codes "usage: planus dot [-I FOLDER].. SCHEMA\n"
usage_of (Some Conform) = codes "usage: planus conform [OPTION].. OLD NEW\n       planus conform [OPTION].. --against FOLDER SCHEMA..\n"
usage_of (Some Completions) = codes "usage: planus completions bash|zsh|fish\n"

abbrev pub details_of : Command → List ℕ
details_of Check = codes "\nSays on standard error what is wrong with each schema and the files that it includes,\nor nothing. Included files are sought beside the file and in each FOLDER.\nEnds with 0 where nothing is wrong, with 1 where a schema has a fault, and with 2\nwhere the call is wrong or a file can't be read.\n"
details_of Format = codes "\nPrints the canonical text of each schema, with its comments.\n\n  --write  replaces each file by its text\n  --check  prints nothing, and says which files don't have that text\n\nEnds with 0 where nothing is wrong, with 1 where a schema has a fault or --check names\na file, and with 2 where the call is wrong or a file can't be read or written.\n"
details_of View = codes "\nPrints what a buffer holds, a line a value, as far as the lines and bytes go.\n\n  --root NAME      the root is this table, and not that of the schema\n  --size-prefixed  BUFFER is any number of buffers, each after its size\n  --lines N        at most N lines, and not 1000\n  --bytes N        at most N bytes, and not 1048576\n  -I FOLDER        included files are sought in this folder too\n\nEnds with 0 where all is shown, with 1 where something is wrong with the buffer or\nmore follows, and with 2 where the call is wrong or a file can't be read.\n"
details_of JsonCommand = codes "\nPrints a buffer as JSON, a member or an item a line, with the fields that it has. If\nsomething is wrong with the buffer it prints nothing, and says where and what.\n\n  --root NAME      the root is this table, and not that of the schema\n  --size-prefixed  BUFFER is any number of buffers, each after its size\n  --compact        each buffer is one line, without spaces\n  --strict         a float that JSON has no number for is in quotes\n  --bytes N        at most N bytes for each buffer, and not 67108864\n  -I FOLDER        included files are sought in this folder too\n\nThe JSON of a buffer is held whole before it is printed, so --bytes says how much\nmemory that takes. The JSON of a large buffer may want a greater N.\nEnds with 0 where all is printed, with 1 where something is wrong with a buffer or its\nJSON is longer, and with 2 where the call is wrong or a file can't be read.\n"
details_of Binary = codes "\nPacks JSON as a buffer by a schema, and writes it to standard output. If something is\nwrong with the JSON it writes nothing, and says where and what.\n\n  -o FILE          the buffer goes to this file, which is replaced only by a whole one\n  --root NAME      the root is this table, and not that of the schema\n  --size-prefixed  JSON is one value or more, each packed as a buffer after its size\n  --identifier     buffers have the schema's file identifier\n  --share          of a buffer equal strings and byte vectors are written once\n  --omit-defaults  a field of a table that holds its default is left out\n  --skip-unknown   a member of a table that no field has is left out, and no fault\n  --bytes N        at most N bytes are written, and not 67108864\n  -I FOLDER        included files are sought in this folder too\n\nEnds with 0 where the buffer is written, with 1 where something is wrong with the JSON\nor the buffer is longer, and with 2 where the call is wrong or a file can't be read or\nwritten.\n"
details_of Dot = codes "\nPrints the graph of a schema for Graphviz: a node for each declaration, with its\nfields and their types, and an edge for each that names a declaration. For a picture,\nplanus dot a.fbs | dot -Tsvg -o a.svg. Included files are sought beside the file and\nin each FOLDER.\nEnds with 0 where the graph is printed, with 1 where the schema has a fault, and with\n2 where the call is wrong or a file can't be read.\n"
details_of Conform = codes "\nSays on standard error what breaks where the schema NEW replaces OLD: each change by\nwhich code of one reads data of the other otherwise, and what to do instead. A note\nsays what changes your own code alone.\n\n  --against FOLDER  SCHEMA is NEW, and OLD the file of its name in this folder\n  --backward        only what breaks new code that reads old data\n  --forward         only what breaks old code that reads new data\n  --rename OLD=NEW  what is OLD in the old schema is NEW in the new one\n  --json            a line of JSON on standard output for each change, for a program\n  -I FOLDER         included files are sought in this folder too\n\nEnds with 0 where nothing breaks, with 1 where something does or a schema has a fault,\nand with 2 where the call is wrong or a file can't be read.\n"
details_of Completions = codes "\nPrints the script by which this shell completes calls of planus: commands, their\noptions, and files. It says how it is used.\n"
details_of RattleCommand = codes "\nPrints the code of a schema as a crate: its files in FOLDER, whose last word is the\ncrate's name. A file that has its text already is left alone.\n\n  -o FOLDER        the folder of the crate, which is made if it isn't there\n  --check          writes nothing, and says which files aren't what is printed\n  --no-verified    prints no views of verified buffers, so that less is to be proved\n  --c PREFIX       prints a crate with calls for C too, FOLDER_c, and in it PREFIX.h,\n                   and PREFIX.hpp, PREFIX.py and PREFIX.rs for C++, Python and Rust;\n                   the names of calls begin with PREFIX\n  -I FOLDER        included files are sought in this folder too\n\nEnds with 0 where all is printed, with 1 where the schema has a fault or something\nthat isn't supported, or --check names a file, and with 2 where the call is wrong or\na file can't be read or written.\n"

abbrev pub help_of : Command → List ℕ
help_of command = usage_of (Some command) ++ details_of command

abbrev pub no_value_text : Choice → List ℕ
no_value_text Root = codes "planus: no name follows --root\n"
no_value_text Lines = codes "planus: no number follows --lines\n"
no_value_text Bytes = codes "planus: no number follows --bytes\n"
no_value_text Output = codes "planus: no folder follows -o\n"
no_value_text OutputFile = codes "planus: no file follows -o\n"
no_value_text Rename = codes "planus: no names follow --rename\n"
no_value_text Against = codes "planus: no folder follows --against\n"
no_value_text Foreign = codes "planus: no prefix follows --c\n"
no_value_text choice = codes "planus: no folder follows -I\n"

abbrev pub no_shell_text : List ℕ
no_shell_text = codes "planus: completions has one shell: bash, zsh or fish\n"

abbrev pub no_buffer_text : Command → List ℕ
no_buffer_text JsonCommand = codes "planus: json has a schema and a buffer\n"
no_buffer_text Binary = codes "planus: binary has a schema and JSON\n"
no_buffer_text command = codes "planus: view has a schema and a buffer\n"

abbrev pub several_schemas_text : Command → List ℕ
several_schemas_text Dot = codes "planus: dot has one schema\n"
several_schemas_text command = codes "planus: rattle has one schema\n"

abbrev pub no_schema_text : Command → List ℕ
no_schema_text Completions = no_shell_text
no_schema_text command = codes "planus: no schema is named; - is standard input\n"

abbrev pub empty_value_text : Choice → List ℕ
empty_value_text Root = codes "planus: the name of --root is empty\n"
empty_value_text Lines = codes "planus: the number of --lines is empty\n"
empty_value_text Bytes = codes "planus: the number of --bytes is empty\n"
empty_value_text Output = codes "planus: the folder of -o is empty\n"
empty_value_text OutputFile = codes "planus: the name of -o is empty\n"
empty_value_text Against = codes "planus: the folder of --against is empty\n"
empty_value_text Foreign = codes "planus: the prefix of --c is empty\n"
empty_value_text choice = codes "planus: the folder of -I is empty\n"

-- after the value
abbrev pub no_number_text : Choice → List ℕ
no_number_text Lines = codes ", the value of --lines, is no number"
no_number_text choice = codes ", the value of --bytes, is no number"

abbrev pub said_text : Bool → List ℕ → Option SaidV
said_text wrong text = Some (record { wrong = wrong; text = text })

abbrev pub on_output : List ℕ → Option SaidV
on_output text = said_text false text

abbrev pub on_errors : List ℕ → Option SaidV
on_errors text = said_text true text

-- none where schemas are named
abbrev pub said_of : Asked → Option SaidV
said_of help = on_output help_text
said_of (help_asked command) = on_output (help_of command)
said_of version = on_output version_text
said_of (run command words) = None
said_of no_command = on_errors (codes "planus: no command is given\n" ++ usage_of None)
said_of (unknown_command w) = on_errors (codes "planus: unknown command `" ++ (shown w
    ++ (codes "`; " ++ (call_hint (nearest command_words w) ++ (codes "\n" ++ usage_of None)))))
said_of (unknown_option command w) = on_errors (codes "planus: unknown option `" ++ (shown w
    ++ (codes "`; " ++ (call_hint (nearest (option_words command) (before_equals w))
    ++ (codes "\n" ++ usage_of (Some command))))))
said_of (no_value command choice) = on_errors (no_value_text choice ++ usage_of (Some command))
said_of (no_schema command) = on_errors (no_schema_text command ++ usage_of (Some command))
said_of (completions shell) = on_output (script_of shell)
said_of no_shell = on_errors (no_shell_text ++ usage_of (Some Completions))
said_of (no_buffer command) = on_errors (no_buffer_text command ++ usage_of (Some command))
said_of (empty_value command choice) = on_errors (empty_value_text choice ++ usage_of (Some command))
said_of (empty_file command) = on_errors (codes "planus: the name of a file is empty\n"
    ++ usage_of (Some command))
said_of (input_twice command) = on_errors (codes "planus: standard input is read once, and - stands here twice\n"
    ++ usage_of (Some command))
said_of (no_number command choice w) = on_errors (codes "planus: `" ++ (shown w
    ++ (codes "`" ++ (no_number_text choice ++ (codes "\n" ++ usage_of (Some command))))))
said_of (several_schemas command) =
    on_errors (several_schemas_text command ++ usage_of (Some command))
said_of no_output = on_errors (codes "planus: no folder is given: -o FOLDER\n"
    ++ usage_of (Some RattleCommand))
said_of write_and_check = on_errors (codes "planus: format has --write or --check, and not both\n"
    ++ usage_of (Some Format))
said_of no_pair = on_errors (codes "planus: conform has an old schema and a new one, or --against\n"
    ++ usage_of (Some Conform))
said_of backward_and_forward =
    on_errors (codes "planus: conform has --backward or --forward, and not both\n"
    ++ usage_of (Some Conform))
said_of (no_rename w) = on_errors (codes "planus: `" ++ (shown w ++ (codes "`"
    ++ (codes ", the value of --rename, isn't OLD=NEW" ++ (codes "\n" ++ usage_of (Some Conform))))))

-- The text was written, on standard error with status 2 or on standard output with 0.
abbrev pub SaysBy : Bool → List ℕ → Option ℕ → Option (List ℕ) → Option (List ℕ)
    → Option (List ℕ) → Option (List ℕ) → Type 0
SaysBy true text status before after unsaid said =
    (status ≡ Some 2) × Keeps before after × Appends unsaid said text
SaysBy false text status before after unsaid said =
    (status ≡ Some 0) × Appends before after text × Keeps unsaid said

-- This was written, and a status only if anything was.
abbrev pub Says : Option SaidV → Option ℕ → Option (List ℕ) → Option (List ℕ)
    → Option (List ℕ) → Option (List ℕ) → Type 0
Says None status before after unsaid said =
    (status ≡ None) × Keeps before after × Keeps unsaid said
Says (Some s) status before after unsaid said =
    SaysBy s.wrong s.text status before after unsaid said
