use Rattle.std.proofs.Common.{[], ◌∷◌, ap, sym, ◌∙◌, take}
use Rattle.std.proofs.lemmas.List.{take_all}
use Rattle.std.proofs.lemmas.List.Sums.{fold-append}
use Rattle.std.specs.Global.{Vec}
use Rattle.std.specs.Prelude.{ℕ}
use Rattle.planus_syntax.specs.Values.{names_of}
use Rattle.planus_resolve.specs.Names.{with_word}
use Rattle.planus_resolve.proofs.StructLemmas.{map_next}
use Rattle.planus_resolve.proofs.head.put_words.Goals as goal

pub words-preserved : goal.words-preserved
words-preserved c =
    let w = c.word-item.result in
    let before = names_of (take c.words.word-index c.args.words.now) in
    let t = map_next (λ (v : Vec ℕ). v.items) c.args.words.now c.words.word-index w c.words-test.true c.word-item.is in
    rw t (c.in-Ok.ensures ∙ ap (with_word c.words.out.items) c.deref.ensures.value
    ∙ ap (λ o. with_word o w.items) c.words.invariant ∙ sym (fold-append with_word c.args.out.now.items before (w.items ∷ [])))

pub returns : goal.returns
returns c =
    let t = take_all c.words.word-index c.args.words.now c.words-test.false in
    rw t at c.words.invariant
