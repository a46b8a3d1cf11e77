use Rattle.std.proofs.Common.{◌≡◌, ◌<◌, ◌++◌, ◌∷◌, [], length, arith}
use Rattle.std.specs.Prelude.{slice_get, Some}
use Rattle.std.proofs.lemmas.Option.{slice_get-get_or}
use Rattle.planus_schema.specs.Spelling.{member_word, said_in, names_in, member_names, set_apart}
use Rattle.planus_codegen.proofs.NameLemmas.{next_name}
use Rattle.planus_codegen.proofs.names.members_of.Goals as goal
use Rattle.planus_codegen.proofs.names.members_of.Goals.{in-Some+in_ok-word+in_ok-add, in_default}

pub members-preserved : goal.members-preserved
members-preserved c =
    elim c.match-member_in.branch [
      | in-Some+in_ok-word+in_ok-add w ↦
          let here : slice_get (said_in c.args.body.now) c.members.place ≡ Some w.deref.result.now = cc (w.in-Some.ensures, w.deref.ensures.value) in
          let more : names_in c.match-member_in.names ≡ names_in c.members.names ++ set_apart (names_in c.members.names) (names_in c.members.names) w.in_ok-word.word.items ∷ [] = rw w.names-is w.in_ok-add.ensures in
          next_name (member_word c.args.body.now) (names_in c.members.names) (names_in c.match-member_in.names) (said_in c.args.body.now) c.members.place w.in_ok-word.word.items w.deref.result.now
          (member_names c.args.body.now) here w.in_ok-word.ensures more c.members.invariant
      | in_default w ↦
          let within : c.members.place < length (said_in c.args.body.now) = omega (arith, c.count_in-place-end.ensures) in
          let there = slice_get-get_or (said_in c.args.body.now) c.members.place [] within in
          let none = w.in_default.ensures in absurd cc
    ]
