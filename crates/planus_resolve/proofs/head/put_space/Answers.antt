use Rattle.std.proofs.Common.{◌-◌, ap, sym, ◌∙◌, take}
use Rattle.std.specs.Prelude.{fold}
use Rattle.std.proofs.lemmas.List.{take-map}
use Rattle.std.proofs.lemmas.Result.{on_ok_weaker}
use Rattle.planus_syntax.specs.Values.{names_of}
use Rattle.planus_resolve.specs.Names.{with_word, space_of}
use Rattle.planus_resolve.proofs.Lists.{words_taken}
use Rattle.planus_resolve.proofs.head.put_space.Goals as goal

pub returns-in-Ok : goal.returns-in-Ok
returns-in-Ok c =
    let p = c.in-Some.path.now in
    let out = c.args.out.now.items in
    let n = c.args.count in
    on_ok_weaker c.put_words.result (λ e. e
    ∙ ap (λ ws. fold with_word c.put_word.new.out.items (names_of (take (n - 1) ws))) c.deref-in-Some.ensures.value
    ∙ ap (λ o. fold with_word o (names_of (take (n - 1) p.more.items))) (c.in-Ok.ensures ∙ ap (with_word out) c.deref.ensures.value)
    ∙ ap (fold with_word (with_word out p.first.items)) (sym (take-map _ (n - 1) p.more.items))
    ∙ words_taken out p.first.items (names_of p.more.items) n c.if-count-gt0.true
    ∙ ap (λ o. fold with_word out (take n (space_of o))) (sym c.in-Some.is)) c.put_words.ensures
