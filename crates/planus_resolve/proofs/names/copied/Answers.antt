use Rattle.std.proofs.Common.{◌∙◌, arith}
use Rattle.planus_schema.proofs.NameLemmas.{copied_more}
use Rattle.planus_resolve.proofs.names.copied.Goals as goal

pub words-preserved : goal.words-preserved
words-preserved c =
    rw c.in_ok-push.ensures.items (copied_more c.words.out.items c.args.words.now c.words.word-index c.word-item.result
    c.in_ok-copy.copy (omega arith) c.word-item.is (c.in_ok-copy.ensures.items ∙ c.deref.ensures.value) c.words.invariant)
