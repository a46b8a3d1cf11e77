use Rattle.std.proofs.Common.{subst, sym, refl, ◌≤◌, drop, length, map, max, ◌+◌}
use Rattle.planus_cli.specs.Arguments.{words_of}
use Rattle.planus_cli.specs.Conforming.{ConformsAgainst}
use Rattle.planus_cli.specs.Each.{RunsFiles}
use Rattle.planus_cli.specs.Loading.{places_of}
use Rattle.planus_cli.proofs.RunFiles.{next_run, all_run}
use Rattle.planus_cli.proofs.conform.conform_each.Goals as goal

pub words-preserved : goal.words-preserved
words-preserved g c = λ status after said rest.
    let words = c.args.words.now in
    let One = ConformsAgainst
    (places_of (g.F.Files.disk c.args.files.now) words.folders.items) (words_of words)
    c.args.folder.now in
    let all = c.deref-word-items.result.now in
    let same = c.deref-word-items.ensures.value in
    let index = c.words.word-index in
    let worst = c.words.worst in
    let one = c.in_ok-status.status in
    let before = g.W.Write.contents c.words.writer in
    let written = g.W.Write.contents c.conform_against.new.writer in
    let unsaid = g.X.Write.contents c.words.errors in
    let told = g.X.Write.contents c.conform_against.new.errors in
    let more = subst (λ mid. RunsFiles One
    (map (λ x. x.now) (drop (index + 1) words.files.items)) mid status written after told said)
    c.max-worst.ensures rest in
    let next = next_run One all index _ _ worst one before written unsaid told c.words-test.true
    refl c.in_ok-status.ensures status after said
    (subst (λ ws. RunsFiles One (map (λ x. x.now) (drop (index + 1) ws)) (max worst one) status
    written after told said) (sym same) more) in
    c.words.invariant status after said
    (subst (λ ws. RunsFiles One (map (λ x. x.now) (drop index ws)) worst status before after unsaid
    said) same next)

pub returns : goal.returns
returns g c =
    let words = c.args.words.now in
    let One = ConformsAgainst
    (places_of (g.F.Files.disk c.args.files.now) words.folders.items) (words_of words)
    c.args.folder.now in
    let end = subst (λ ws. length ws ≤ c.words.word-index) c.deref-word-items.ensures.value
    c.words-test.false in
    c.words.invariant c.words.worst (g.W.Write.contents c.words.writer)
    (g.X.Write.contents c.words.errors)
    (all_run One words.files.items c.words.word-index c.words.worst
    (g.W.Write.contents c.words.writer) (g.X.Write.contents c.words.errors) end)
