-- What becomes of lines that are written as they come.
use Rattle.std.specs.Prelude.{◌≡◌, ℕ, ◌||◌, List, ◌++◌, Option, Result, Ok, Err}
use Rattle.std.specs.List.{list_any}
use Rattle.planus_dump.specs.Dumped.{AreShown}
use Rattle.planus_dump.specs.Events.{Event}
use Rattle.planus_dump.specs.Faults.{is_fault}
use Rattle.planus_dump.specs.Views.{lines_text}
use Rattle.planus_dump.specs.Writing.{WritesBeginning, Leaves}
use Rattle.planus_dump.specs.declared.line_writer.LineWriter.{LineWriter}

module _ {W : Type 0} (contents : W → Option (List ℕ)) where
  -- the block and these bytes were written, but for what is in the block now
  pub record WritesOn (old : LineWriter W) (bytes : List ℕ) (new : LineWriter W) : Type 0 where
    pub same : new.writer.ghost_name ≡ old.writer.ghost_name
    pub leaves : Leaves (old.block.items ++ bytes) new.block.items
        (contents old.writer.now) (contents new.writer.now)

  -- a beginning of them was
  pub record BeginsOn (old : LineWriter W) (bytes : List ℕ) (new : LineWriter W) : Type 0 where
    pub same : new.writer.ghost_name ≡ old.writer.ghost_name
    pub begun : WritesBeginning (old.block.items ++ bytes)
        (contents old.writer.now) (contents new.writer.now)

  abbrev pub Pushes : {U E : Type 0} → LineWriter W → List ℕ → Result U E → LineWriter W → Type 0
  Pushes old bytes (Ok u) new = WritesOn old bytes new × (new.has_fault ≡ old.has_fault)
  Pushes old bytes (Err error) new = BeginsOn old bytes new

  -- these lines were written, but for what is in the block now
  pub record Writes (start : LineWriter W) (es : List Event) (now : LineWriter W) : Type 0 where
    pub lines : List (List ℕ)
    pub shown : AreShown es lines
    pub written : WritesOn start (lines_text lines) now
    pub fault : now.has_fault ≡ start.has_fault || list_any is_fault es

  -- a beginning of these lines was written
  pub record WritesPart (start : LineWriter W) (es : List Event) (now : LineWriter W) : Type 0 where
    pub lines : List (List ℕ)
    pub shown : AreShown es lines
    pub begun : BeginsOn start (lines_text lines) now
