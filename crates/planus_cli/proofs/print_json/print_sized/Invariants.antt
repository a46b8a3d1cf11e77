use Rattle.std.proofs.Common.{◌≡◌, ◌+◌, ◌≤◌, ℕ, List, length}
use Rattle.std.specs.Prelude.{Option}
use Rattle.planus_cli.specs.PrintingJson.{manner_of, PrintsSized}
use Rattle.planus_cli.proofs.print_json.print_sized.Given as goal

-- what prints the rest of the bytes ends a print of all
abbrev pub invariant-buffers : goal.invariant-buffers
invariant-buffers g l = record {
  place : l.at + length l.rest ≡ length l.bytes;
  count : l.number ≤ l.at;
  prints : (buffers : List (List ℕ)) (status : ℕ) (after said : Option (List ℕ))
      → PrintsSized (manner_of l.print) l.number l.at buffers l.rest l.worst status (g.W.Write.contents l.writer) after (g.X.Write.contents l.errors) said
      → (all : List (List ℕ)) × PrintsSized (manner_of l.print) 0 0 all l.bytes 0 status
      (g.W.Write.contents l.initial.writer) after (g.X.Write.contents l.initial.errors) said;
}

abbrev pub decreases-buffers : goal.decreases-buffers
decreases-buffers g l = length l.rest
