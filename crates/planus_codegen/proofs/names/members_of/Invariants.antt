use Rattle.std.proofs.Common.{◌≡◌, map, drop}
use Rattle.planus_schema.specs.Spelling.{scope_from, member_word, member_names, said_in, names_in}
use Rattle.planus_codegen.proofs.names.members_of.Given as goal

abbrev pub invariant-members : goal.invariant-members
invariant-members l = scope_from (names_in l.names) (map (member_word l.body) (drop l.place (said_in l.body)))
    ≡ member_names l.body
