use Rattle.std.proofs.Common.{◌≡◌, ℕ, ◌++◌, List, length}
use Rattle.planus_back.proofs.byte.same_words.Given as goal

abbrev pub invariant-loop-word : goal.invariant-loop-word
invariant-loop-word l =
    (front : List ℕ) × (l.fn.left ≡ front ++ l.left) × (l.fn.right ≡ front ++ l.right)

abbrev pub decreases-loop-word : goal.decreases-loop-word
decreases-loop-word l = length l.left
