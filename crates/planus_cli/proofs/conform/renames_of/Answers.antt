use Rattle.std.proofs.Common.{take, map, subst, sym}
use Rattle.std.proofs.lemmas.List.{take_more}
use Rattle.planus_cli.specs.Conforming.{AreRenamesOf}
use Rattle.planus_cli.proofs.Conformed.{renames_push}
use Rattle.planus_cli.proofs.conform.renames_of.Goals as goal

pub words-preserved : goal.words-preserved
words-preserved c =
    let some = take c.words.word-index c.args.words.now in
    subst (λ ws. AreRenamesOf (map (λ w. w.now) ws) c.push.new.self.items)
    (sym (take_more c.args.words.now c.words.word-index _ c.words-test.true))
    (subst (AreRenamesOf _) (sym c.in_ok-push.ensures.items)
    (renames_push some c.words.renames.items _ c.in_ok-rename.rename c.words.invariant c.in_ok-rename.ensures))
