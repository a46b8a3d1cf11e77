use Rattle.std.proofs.Common.{◌≡◌, ◌++◌, take}
use Rattle.planus_tie.specs.Wanted.{lines_text}
use Rattle.planus_tie.proofs.entries.push_entries.Given as goal

abbrev pub invariant-loop-line : goal.invariant-loop-line
invariant-loop-line l =
    l.out.items ≡ l.fn.out.items ++ lines_text l.naming (take l.line-index l.order)
