use Rattle.std.proofs.Common.{◌≡◌, ◌++◌, drop}
use Rattle.planus_tie.specs.Unions.{members_from}
use Rattle.planus_tie.proofs.unions.members_of.Given as goal

abbrev pub invariant-members : goal.invariant-members
invariant-members l = record {
  place : l.place ≡ l.member-index;
  rest : l.all.items ++ members_from l.index l.place (drop l.member-index l.members)
      ≡ members_from l.index 0 l.members;
}
