-- What the program prints for a dump.
use Rattle.std.specs.Prelude.{◌≡◌, ℕ, ◌-◌, nat_lt, ◌==◌, List, [], ◌∷◌}
use Rattle.std.specs.Prelude.{map, length, take, slice_index}
use Rattle.std.specs.Prelude.{Bool, true, false, if◌then◌else◌, Option, Some, None, Result, Ok, Err}
use Rattle.std.specs.Prelude.{Vec, String, codes}
use Rattle.std.specs.Bool.{MatchBool}
use Rattle.std.specs.List.{flat_map}
use Rattle.std.specs.String.{string_bytes}
use Rattle.std.specs.Io.KnownBytes.{Appends}
use Rattle.std.specs.declared.alloc.Global.{Global}
use Rattle.planus_dump.specs.Dumped.{Dumped}
use Rattle.planus_dump.specs.declared.schemas.Schema.{Schema}
use Rattle.planus_dump.specs.declared.dumps.DumpError.{DumpError}
use Rattle.planus_dump.specs.declared.dumps.DumpError.TheVariants.{OutOfMemory, BadSchema}
use Rattle.planus_dump.specs.declared.dumps.DumpError.TheVariants.{TooDeep, TooManyLines}
use Rattle.planus_script.specs.Printed.{greatest_script, line_of}
use Rattle.planus_dump.specs.Writing.{WritesBeginning}
use Rattle.planus_script.specs.Script.{byte_of, onto_bytes}

-- the greatest number of lines
abbrev pub budget : ℕ
budget = 10000

-- two hexadecimal digits for each byte, with one space between
abbrev pub spaced_bytes : List ℕ → Option (List ℕ)
spaced_bytes [] = None
spaced_bytes (digit ∷ []) = None
spaced_bytes (high ∷ low ∷ []) = onto_bytes (byte_of high low) (Some [])
spaced_bytes (high ∷ low ∷ space ∷ rest) =
    if space == 32 then onto_bytes (byte_of high low) (spaced_bytes rest) else None

-- the bytes of a line, which may have none
abbrev pub line_bytes : List ℕ → Option (List ℕ)
line_bytes [] = Some []
line_bytes (digit ∷ digits) = spaced_bytes (digit ∷ digits)

-- without a line feed at its end
abbrev pub without_line_feed : List ℕ → List ℕ
without_line_feed input =
    if slice_index input (length input - 1) == 10 then take (length input - 1) input else input

abbrev pub input_bytes : List ℕ → Option (List ℕ)
input_bytes input = line_bytes (without_line_feed input)

abbrev pub vec_bytes : Option (Vec ℕ Global) → Option (List ℕ)
vec_bytes None = None
vec_bytes (Some bytes) = Some bytes.items

-- only this message is printed
abbrev pub IsFault : List ℕ → Bool → List ℕ → Type 0
IsFault words clean printed = (clean ≡ false) × (printed ≡ line_of words)

-- what is printed for a dump's result: its lines, or its error
abbrev pub PrintsDumpAnswer :
    Result (Vec (String Global) Global) DumpError → Bool → List ℕ → Type 0
PrintsDumpAnswer (Ok lines) clean printed =
    (clean ≡ true) × (printed ≡ flat_map line_of (map string_bytes lines.items))
PrintsDumpAnswer (Err OutOfMemory) clean printed = IsFault (codes "out of memory") clean printed
PrintsDumpAnswer (Err BadSchema) clean printed = IsFault (codes "bad schema") clean printed
PrintsDumpAnswer (Err TooDeep) clean printed = IsFault (codes "too deep") clean printed
PrintsDumpAnswer (Err TooManyLines) clean printed = IsFault (codes "too many lines") clean printed

abbrev pub PrintsBytes : Schema → Option (List ℕ) → Bool → List ℕ → Type 0
PrintsBytes schema None clean printed = IsFault (codes "bad hex") clean printed
PrintsBytes schema (Some bytes) clean printed =
    (answer : Result (Vec (String Global) Global) DumpError) × Dumped schema bytes budget answer
    × PrintsDumpAnswer answer clean printed

abbrev pub PrintsDump : Schema → List ℕ → Bool → List ℕ → Type 0
PrintsDump schema input clean printed =
    MatchBool (nat_lt greatest_script (length input))
    (IsFault (codes "script too long") clean printed)
    (PrintsBytes schema (input_bytes input) clean printed)

-- what is printed for the input was written, and nothing else
abbrev pub WritesDump : Schema → List ℕ → Bool → Option (List ℕ) → Option (List ℕ) → Type 0
WritesDump schema input clean before after =
    (printed : List ℕ) × PrintsDump schema input clean printed × Appends before after printed

-- a beginning of what is printed for the input was written, and nothing else
abbrev pub BeginsDump : Schema → List ℕ → Option (List ℕ) → Option (List ℕ) → Type 0
BeginsDump schema input before after = (clean : Bool) × (printed : List ℕ)
    × PrintsDump schema input clean printed × WritesBeginning printed before after
