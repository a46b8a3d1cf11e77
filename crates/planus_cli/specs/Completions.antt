-- The scripts by which shells complete calls.
use Rattle.std.specs.Prelude.{ℕ, List, [], ◌∷◌, ◌++◌, codes}
use Rattle.std.specs.List.{flat_map}
use Rattle.planus_cli.specs.declared.arguments.Shell.{Shell}
use Rattle.planus_cli.specs.declared.arguments.Shell.TheVariants.{Bash, Zsh, Fish}
use Rattle.planus_cli.specs.declared.arguments.Command.{Command}
use Rattle.planus_cli.specs.declared.arguments.Command.TheVariants.{Check, Format, View}
use Rattle.planus_cli.specs.declared.arguments.Command.TheVariants.{Rattle as RattleCommand}
use Rattle.planus_cli.specs.declared.arguments.Command.TheVariants.{Json as JsonCommand}
use Rattle.planus_cli.specs.declared.arguments.Command.TheVariants.{Binary}
use Rattle.planus_cli.specs.declared.arguments.Command.TheVariants.{Dot, Conform, Completions}
use Rattle.planus_cli.specs.declared.completions.Frame.{Frame}

-- what a script has round the words of a row, and round the words that a call may begin with
pub record FrameV : Type 0 where
  pub head : List ℕ
  pub before : List ℕ
  pub after_name : List ℕ
  pub after_options : List ℕ
  pub after_arguments : List ℕ
  pub first : List ℕ
  pub between : List ℕ
  pub tail : List ℕ

abbrev pub frame_view : Frame → FrameV
frame_view frame = record {
  head = frame.head.now;
  before = frame.before.now;
  after_name = frame.after_name.now;
  after_options = frame.after_options.now;
  after_arguments = frame.after_arguments.now;
  first = frame.first.now;
  between = frame.between.now;
  tail = frame.tail.now;
}

abbrev pub frame_of : Shell → FrameV
frame_of Bash = record {
  head = codes "# Completes calls of planus in bash: source this file.\n_planus() {\n    local word=${COMP_WORDS[COMP_CWORD]} options= arguments=\n    case ${COMP_WORDS[1]} in\n";
  before = codes "        ";
  after_name = codes ") options='";
  after_options = codes "' arguments='";
  after_arguments = codes "' ;;\n";
  first = codes "    esac\n    if [ \"$COMP_CWORD\" = 1 ]; then\n        options='";
  between = codes "' arguments='";
  tail = codes "'\n    fi\n    case $word in\n        -*) COMPREPLY=($(compgen -W \"$options\" -- \"$word\")) ;;\n        *) COMPREPLY=($(compgen -W \"$arguments\" -- \"$word\")) ;;\n    esac\n}\ncomplete -o default -F _planus planus\n";
}
frame_of Zsh = record {
  head = codes "#compdef planus\n# Completes calls of planus in zsh: _planus in a folder of $fpath.\nlocal -a options arguments\ncase $words[2] in\n";
  before = codes "    ";
  after_name = codes ") options=(";
  after_options = codes ") arguments=(";
  after_arguments = codes ") ;;\n";
  first = codes "esac\nif (( CURRENT == 2 )); then\n    options=(";
  between = codes ") arguments=(";
  tail = codes ")\nfi\nif [[ $PREFIX == -* ]]; then\n    compadd -a options\nelif (( $#arguments )); then\n    compadd -a arguments\nelse\n    _files\nfi\n";
}
frame_of Fish = record {
  head = codes "# Completes calls of planus in fish: planus.fish in its folder completions.\n";
  before = codes "complete -c planus -n '__fish_seen_subcommand_from ";
  after_name = codes "' -a '";
  after_options = [];
  after_arguments = codes "'\n";
  first = codes "complete -c planus -f -n '__fish_use_subcommand' -a '";
  between = [];
  tail = codes "'\n";
}

abbrev pub shells : List (List ℕ)
shells = codes "bash" ∷ codes "zsh" ∷ codes "fish" ∷ []

-- the commands
abbrev pub names : List (List ℕ)
names = codes "check" ∷ codes "format" ∷ codes "view" ∷ codes "json" ∷ codes "binary"
    ∷ codes "rattle" ∷ codes "dot" ∷ codes "conform" ∷ codes "completions" ∷ codes "help" ∷ []

-- the options of a command
abbrev pub option_words : Command → List (List ℕ)
option_words Check = codes "-I" ∷ codes "--help" ∷ codes "-h" ∷ []
option_words Format = codes "--write" ∷ codes "--check" ∷ codes "--help" ∷ codes "-h" ∷ []
option_words View = codes "-I" ∷ codes "--root" ∷ codes "--size-prefixed" ∷ codes "--lines"
    ∷ codes "--bytes" ∷ codes "--help" ∷ codes "-h" ∷ []
option_words JsonCommand = codes "-I" ∷ codes "--root" ∷ codes "--size-prefixed"
    ∷ codes "--compact" ∷ codes "--strict" ∷ codes "--bytes" ∷ codes "--help" ∷ codes "-h" ∷ []
option_words Binary = codes "-I" ∷ codes "-o" ∷ codes "--root" ∷ codes "--size-prefixed"
    ∷ codes "--identifier" ∷ codes "--share" ∷ codes "--omit-defaults" ∷ codes "--skip-unknown"
    ∷ codes "--bytes" ∷ codes "--help" ∷ codes "-h" ∷ []
option_words RattleCommand = codes "-I" ∷ codes "-o" ∷ codes "--check" ∷ codes "--no-verified"
    ∷ codes "--c" ∷ codes "--help" ∷ codes "-h" ∷ []
option_words Dot = codes "-I" ∷ codes "--help" ∷ codes "-h" ∷ []
option_words Conform = codes "-I" ∷ codes "--backward" ∷ codes "--forward" ∷ codes "--rename"
    ∷ codes "--against" ∷ codes "--json" ∷ codes "--help" ∷ codes "-h" ∷ []
option_words Completions = codes "--help" ∷ codes "-h" ∷ []

-- the options that a call may begin with
abbrev pub first_options : List (List ℕ)
first_options = codes "--help" ∷ codes "-h" ∷ codes "--version" ∷ codes "-V" ∷ []

-- a space after each word
abbrev pub spaced : List (List ℕ) → List ℕ
spaced words = flat_map (λ w. w ++ 32 ∷ []) words

-- the options and the arguments of a command
unfoldable pub row_text : FrameV → List ℕ → List (List ℕ) → List (List ℕ) → List ℕ
row_text frame name options arguments = frame.before ++ (name ++ (frame.after_name
    ++ (spaced options ++ (frame.after_options ++ (spaced arguments ++ frame.after_arguments)))))

-- the rows of the commands whose arguments aren't files
unfoldable pub other_rows : FrameV → List ℕ
other_rows frame = row_text frame (codes "completions") (option_words Completions) shells
    ++ row_text frame (codes "help") [] names

-- a row for each command, with its options; files are the arguments of the first eight
unfoldable pub rows_text : FrameV → List ℕ
rows_text frame = row_text frame (codes "check") (option_words Check) []
    ++ (row_text frame (codes "format") (option_words Format) []
    ++ (row_text frame (codes "view") (option_words View) []
    ++ (row_text frame (codes "json") (option_words JsonCommand) []
    ++ (row_text frame (codes "binary") (option_words Binary) []
    ++ (row_text frame (codes "rattle") (option_words RattleCommand) []
    ++ (row_text frame (codes "dot") (option_words Dot) []
    ++ (row_text frame (codes "conform") (option_words Conform) []
    ++ other_rows frame)))))))

unfoldable pub script_in : FrameV → List ℕ
script_in frame = frame.head ++ (rows_text frame ++ (frame.first ++ (spaced first_options
    ++ (frame.between ++ (spaced names ++ frame.tail)))))

-- the script of a shell
unfoldable pub script_of : Shell → List ℕ
script_of shell = script_in (frame_of shell)
