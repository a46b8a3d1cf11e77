use Rattle.std.proofs.Common.{ℕ, List, drop, map}
use Rattle.std.specs.Prelude.{Option}
use Rattle.planus_cli.specs.Arguments.{words_of}
use Rattle.planus_cli.specs.Conforming.{ConformsAgainst}
use Rattle.planus_cli.specs.Each.{RunsFiles}
use Rattle.planus_cli.specs.Loading.{places_of}
use Rattle.planus_cli.proofs.conform.conform_each.Given as goal

abbrev pub invariant-words : goal.invariant-words
invariant-words g l =
    let One = ConformsAgainst (places_of (g.F.Files.disk l.files) l.words.folders.items)
    (words_of l.words) l.folder in
    (status : ℕ) (after said : Option (List ℕ))
    → RunsFiles One (map (λ x. x.now) (drop l.word-index l.words.files.items)) l.worst status
    (g.W.Write.contents l.writer) after (g.X.Write.contents l.errors) said
    → RunsFiles One (map (λ x. x.now) l.words.files.items) 0 status
    (g.W.Write.contents l.initial.writer) after (g.X.Write.contents l.initial.errors) said
