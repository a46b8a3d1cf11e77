-- Which lines take memory: for a step's string, bytes or items, also before an error after them.
use Rattle.std.specs.Prelude.{ℕ, ◌≤◌, List, [], ◌∷◌, length, ⊤, ◌⊎◌, Option, Some, None, Result}
use Rattle.std.specs.Prelude.{IsOk, IsTrue}
use Rattle.std.specs.Bool.{MatchBool}
use Rattle.std.specs.Str.{is_utf8}
use Rattle.planus_script.specs.Words.{words_of, number_of}
use Rattle.planus_script.specs.Fields.{field_of}
use Rattle.planus_script.specs.Unions.{union_of}
use Rattle.planus_script.specs.Script.{command_named, command_of, is_skipped}
use Rattle.planus_script.specs.declared.script.Command.{Command}
use Rattle.planus_script.specs.declared.script.Command.TheVariants as named
use Rattle.planus_script.specs.declared.script.ReadFault.{ReadFault}

-- if the first word is an item
abbrev pub AsksForItems :
    {A : Type 0} → (List ℕ → Result A ReadFault) → List (List ℕ) → Type 0
AsksForItems read [] = ⊥
AsksForItems read (word ∷ words) = IsOk (read word)

-- if there is one word, with the digits of a byte
abbrev pub AsksForBytes : List (List ℕ) → Type 0
AsksForBytes (word ∷ []) = 2 ≤ length word
AsksForBytes _ = ⊥

-- if there is an alignment, and one word with the digits of a byte
abbrev pub AsksForStruct : List (List ℕ) → Type 0
AsksForStruct (alignment ∷ digits ∷ []) = IsOk (number_of alignment) × (2 ≤ length digits)
AsksForStruct _ = ⊥

abbrev pub AsksForStep : Command → List (List ℕ) → Type 0
AsksForStep named.Text words = ⊤
AsksForStep named.Bytes words = AsksForBytes words
AsksForStep (named.Numbers width) words = AsksForItems number_of words
AsksForStep named.Refs words = AsksForItems number_of words
AsksForStep named.Unions words = AsksForItems union_of words
AsksForStep named.Struct words = AsksForStruct words
AsksForStep named.Table words = AsksForItems field_of words
AsksForStep (named.Finish sized) words = ⊥
AsksForStep named.Clear words = ⊥

abbrev pub AsksIfKnown : Option Command → List (List ℕ) → Type 0
AsksIfKnown None words = ⊥
AsksIfKnown (Some command) words = AsksForStep command words

abbrev pub AsksForWords : List (List ℕ) → Type 0
AsksForWords [] = ⊥
AsksForWords (word ∷ words) = AsksIfKnown (command_named word) words

-- it is UTF-8, and its words take memory
abbrev pub AsksForLine : List ℕ → Type 0
AsksForLine line = IsTrue (is_utf8 line) × AsksForWords (words_of line)

-- the first that isn't skipped is a step, or takes memory
abbrev pub AsksForLines : List (List ℕ) → Type 0
AsksForLines [] = ⊥
AsksForLines (line ∷ lines) =
    MatchBool (is_skipped line) (AsksForLines lines) (IsOk (command_of line) ⊎ AsksForLine line)
