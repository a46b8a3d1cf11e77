use Rattle.std.proofs.Common.{◌≡◌, ◌+◌, ◌≤◌, ℕ, List, length}
use Rattle.std.specs.Prelude.{Option}
use Rattle.planus_cli.specs.Buffers.{look_of, look_left, ViewsSized, FailsSized}
use Rattle.planus_cli.specs.declared.streams.CallError.{CallError}
use Rattle.planus_cli.proofs.view.view_sized.Given as goal

-- what views the rest of the bytes ends a view of all, and what fails there fails for all
abbrev pub invariant-buffers : goal.invariant-buffers
invariant-buffers g l = record {
  place : l.at + length l.rest ≡ length l.bytes;
  count : l.number ≤ l.at;
  views : (buffers : List (List ℕ)) (status : ℕ) (after said : Option (List ℕ))
      → ViewsSized (look_left (look_of l.view) l.left) l.number l.at buffers l.rest l.worst status (g.W.Write.contents l.writer) after (g.X.Write.contents l.errors) said
      → (all : List (List ℕ)) × ViewsSized (look_of l.view) 0 0 all l.bytes 0 status
      (g.W.Write.contents l.initial.writer) after (g.X.Write.contents l.initial.errors) said;
  fails : (buffers : List (List ℕ)) (error : CallError) (after said : Option (List ℕ))
      → FailsSized (look_left (look_of l.view) l.left) l.number l.at buffers l.rest error (g.W.Write.contents l.writer) after (g.X.Write.contents l.errors) said
      → (all : List (List ℕ)) × FailsSized (look_of l.view) 0 0 all l.bytes error
      (g.W.Write.contents l.initial.writer) after (g.X.Write.contents l.initial.errors) said;
}

abbrev pub decreases-buffers : goal.decreases-buffers
decreases-buffers g l = length l.rest
