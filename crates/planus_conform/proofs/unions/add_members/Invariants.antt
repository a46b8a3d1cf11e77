use Rattle.std.proofs.Common.{◌≡◌, ◌++◌, drop}
use Rattle.planus_conform.specs.Breaks.{member_breaks}
use Rattle.planus_conform.proofs.unions.add_members.Given as goal

abbrev pub invariant-members : goal.invariant-members
invariant-members l =
    l.breaks.items ++ member_breaks l.met l.matches l.declaration l.members (drop l.a-index l.before)
    ≡ l.fn.breaks.items ++ member_breaks l.met l.matches l.declaration l.members l.before
