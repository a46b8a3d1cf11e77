use Rattle.std.proofs.Common.{◌≡◌, ◌++◌, drop}
use Rattle.planus_conform.specs.Breaks.{added_members}
use Rattle.planus_conform.proofs.unions.add_added_members.Given as goal

abbrev pub invariant-members : goal.invariant-members
invariant-members l =
    l.breaks.items ++ added_members l.met l.declaration l.before (drop l.b-index l.members)
    ≡ l.fn.breaks.items ++ added_members l.met l.declaration l.before l.members
