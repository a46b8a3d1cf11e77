-- The steps so far, and the lines that are left.
use Rattle.std.proofs.Common.{◌≡◌, ℕ, ◌+◌, List, [], ◌∷◌, ◌++◌, length, true, false, refl, ap, append_assoc, append-nil, Result, Ok, Err, Option, Some, None}
use Rattle.std.specs.Borrow.{Bor}
use Rattle.planus.specs.Steps.{Step}
use Rattle.planus_script.specs.Script.{Read, read_lines, lines_of, command_of, is_skipped, onto_read}
use Rattle.planus_script.specs.declared.script.ReadFault.{ReadFault}

abbrev pub lines_left : Option (Bor (List ℕ)) → List (List ℕ)
lines_left None = []
lines_left (Some text) = lines_of text.now

abbrev pub size_left : Option (Bor (List ℕ)) → ℕ
size_left None = 0
size_left (Some text) = length text.now + 1

abbrev pub onto_front : Read → Result Read (ℕ × ReadFault) → Result Read (ℕ × ReadFault)
onto_front front (Ok more) = Ok (record { numbers = front.numbers ++ more.numbers; commands = front.commands ++ more.commands })
onto_front front (Err fault) = Err fault

abbrev pub and_then : Read → ℕ → Step → Read
and_then front number command = record { numbers = front.numbers ++ number ∷ []; commands = front.commands ++ command ∷ [] }

pub onto_empty : (r : Result Read (ℕ × ReadFault)) → onto_front (record { numbers = []; commands = [] }) r ≡ r
onto_empty (Ok more) = refl
onto_empty (Err fault) = refl

onto_onto : (front : Read) (number : ℕ) (command : Step) (r : Result Read (ℕ × ReadFault)) → onto_front front (onto_read number command r) ≡ onto_front (and_then front number command) r
onto_onto front number command (Ok more) = ap (λ (p : List ℕ × List Step). Ok (record { numbers = p.0; commands = p.1 }))
    (rw (append_assoc front.numbers (number ∷ []) more.numbers, append_assoc front.commands (command ∷ []) more.commands) refl)
onto_onto front number command (Err fault) = refl

pub after_skipped : (front : Read) (number : ℕ) (line : List ℕ) (lines : List (List ℕ)) → is_skipped line ≡ true
    → onto_front front (read_lines number (line ∷ lines)) ≡ onto_front front (read_lines (number + 1) lines)
after_skipped front number line lines h = rw h refl

pub after_step : (front : Read) (number : ℕ) (line : List ℕ) (lines : List (List ℕ)) (command : Step) → is_skipped line ≡ false → command_of line ≡ Ok command
    → onto_front front (read_lines number (line ∷ lines)) ≡ onto_front (and_then front number command) (read_lines (number + 1) lines)
after_step front number line lines command h e = rw (h, e) (onto_onto front number command (read_lines (number + 1) lines))

pub after_fault : (front : Read) (number : ℕ) (line : List ℕ) (lines : List (List ℕ)) (fault : ReadFault) → is_skipped line ≡ false → command_of line ≡ Err fault
    → onto_front front (read_lines number (line ∷ lines)) ≡ Err (number, fault)
after_fault front number line lines fault h e = rw (h, e) refl

pub at_end : (front : Read) → onto_front front (Ok (record { numbers = []; commands = [] })) ≡ Ok front
at_end front = rw (append-nil front.numbers, append-nil front.commands) refl
