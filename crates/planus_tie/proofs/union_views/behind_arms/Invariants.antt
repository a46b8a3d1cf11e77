use Rattle.std.proofs.Common.{◌≡◌, length}
use Rattle.std.specs.Option.{option_copied}
use Rattle.planus_tie.specs.UnionViews.{behind_arms}
use Rattle.planus_tie.proofs.union_views.behind_arms.Given as goal

abbrev pub invariant-members : goal.invariant-members
invariant-members l = behind_arms l.naming l.wide l.rest (option_copied l.found)
    ≡ behind_arms l.naming l.wide l.members (option_copied l.text)

abbrev pub decreases-members : goal.decreases-members
decreases-members l = length l.rest
