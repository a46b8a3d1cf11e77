use Rattle.std.proofs.Common.{◌≡◌, ◌++◌, drop}
use Rattle.planus_tie.specs.Wanted.{parts_text}
use Rattle.planus_tie.proofs.entries.push_parts.Given as goal

abbrev pub invariant-loop-entry : goal.invariant-loop-entry
invariant-loop-entry l =
    l.out.items ++ parts_text l.naming (drop l.entry-index l.entries) l.rest
    ≡ l.fn.out.items ++ parts_text l.naming l.entries l.order
