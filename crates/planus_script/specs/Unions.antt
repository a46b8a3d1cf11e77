-- Union vectors in a script.
use Rattle.std.specs.Prelude.{ℕ, nat_lt, List, Option, Some, None, Result, Ok, Err, if◌then◌else◌}
use Rattle.planus_script.specs.Words.{cut_at, number_of, items_of}
use Rattle.planus_script.specs.declared.script.ReadFault.{ReadFault}
use Rattle.planus_script.specs.declared.script.ReadFault.TheVariants.{BadField}

abbrev pub union_with : ℕ → Result ℕ ReadFault → Result (ℕ × ℕ) ReadFault
union_with tag (Err fault) = Err fault
union_with tag (Ok step) = Ok (tag, step)

-- the tag is at most 255
abbrev pub union_tagged : Result ℕ ReadFault → List ℕ → Result (ℕ × ℕ) ReadFault
union_tagged (Err fault) step = Err fault
union_tagged (Ok tag) step =
    if nat_lt 255 tag then Err BadField else union_with tag (number_of step)

abbrev pub union_cut : Option (List ℕ × List ℕ) → Result (ℕ × ℕ) ReadFault
union_cut None = Err BadField
union_cut (Some parts) = union_tagged (number_of parts.0) parts.1

-- a word such as `1:0`, its tag and its value's step, or the first error
abbrev pub union_of : List ℕ → Result (ℕ × ℕ) ReadFault
union_of word = union_cut (cut_at 58 word)

abbrev pub unions_of : List (List ℕ) → Result (List (ℕ × ℕ)) ReadFault
unions_of words = items_of union_of words
