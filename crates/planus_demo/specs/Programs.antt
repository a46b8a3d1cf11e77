-- What the program prints.
use Rattle.std.specs.Prelude.{◌≡◌, ℕ, List, [], ◌++◌, Bool, false, Option, Some, None, IfSome}
use Rattle.std.specs.Prelude.{Result, Ok, Err, codes, IsTrue}
use Rattle.std.specs.Io.KnownBytes.{Appends}
use Rattle.planus_dump.specs.Shapes.{HasShape}
use Rattle.planus_demo.specs.WorkedSchemas.{worked_tables, worked_unions}
use Rattle.planus_dump.specs.declared.schemas.Schema.{Schema}
use Rattle.planus_script.specs.declared.run.RunError.{RunError}
use Rattle.planus_script.specs.declared.run.RunError.TheVariants.{OutOfMemory, Read, Write}
use Rattle.planus_script.specs.Printed.{line_of}
use Rattle.planus_script.specs.Runner.{WritesPrinted}
use Rattle.planus_script.specs.DumpRuns.{WritesDump}
use Rattle.planus_demo.specs.declared.modes.Mode.{Mode}
use Rattle.planus_demo.specs.declared.modes.Mode.TheVariants.{Script, Weapon, Monster}

-- the dump of an input was written by the schema with this root
abbrev pub DumpsRoot : ℕ → List ℕ → Bool → Option (List ℕ) → Option (List ℕ) → Type 0
DumpsRoot root input clean before after = (schema : Schema)
    × HasShape schema worked_tables worked_unions root × WritesDump schema input clean before after

-- only the message of an unknown mode was written
abbrev pub SaysUnknown : Bool → Option (List ℕ) → Option (List ℕ) → Type 0
SaysUnknown clean before after =
    (clean ≡ false) × Appends before after (line_of (codes "unknown argument"))

-- the output of a script or of a dump, or without a mode the message
abbrev pub DoesMode :
    Option Mode → Option (List ℕ) → Bool → Option (List ℕ) → Option (List ℕ) → Type 0
DoesMode (Some Script) input clean before after =
    IfSome input (λ bytes. WritesPrinted bytes clean before after)
DoesMode (Some Weapon) input clean before after =
    IfSome input (λ bytes. DumpsRoot 0 bytes clean before after)
DoesMode (Some Monster) input clean before after =
    IfSome input (λ bytes. DumpsRoot 1 bytes clean before after)
DoesMode None input clean before after = SaysUnknown clean before after

abbrev pub usage_text : List ℕ
usage_text =
    line_of (codes "usage: planus_demo < SCRIPT")
    ++ line_of (codes "       planus_demo weapon < BYTES")
    ++ line_of (codes "       planus_demo monster < BYTES")

-- on standard error: the program's error, or without a mode its usage
abbrev pub told_text : Result Bool RunError → Option Mode → List ℕ
told_text (Err OutOfMemory) mode = line_of (codes "out of memory")
told_text (Err Read) mode = line_of (codes "can't read standard input")
told_text (Err Write) mode = line_of (codes "can't write standard output")
told_text (Ok clean) (Some mode) = []
told_text (Ok clean) None = usage_text

-- Where told, exactly these words were written. No words are always told.
pub record Tells (words : List ℕ) (told : Bool) (before after : Option (List ℕ)) : Type 0 where
  pub written : IsTrue told → Appends before after words
  pub silent : words ≡ [] → IsTrue told
