use Rattle.std.proofs.Common.{◌≡◌, length, map, ◌++◌}
use Rattle.planus_schema.specs.Spelling.{all_member_names, names_in}
use Rattle.planus_codegen.proofs.names.all_members.Given as goal

abbrev pub invariant-declared : goal.invariant-declared
invariant-declared l = map names_in l.out.items ++ all_member_names l.rest ≡ all_member_names l.declared

abbrev pub decreases-declared : goal.decreases-declared
decreases-declared l = length l.rest
