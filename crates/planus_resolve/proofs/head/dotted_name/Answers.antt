use Rattle.std.proofs.Common.{◌∷◌, take, sym, ap, ◌∙◌}
use Rattle.std.specs.Prelude.{fold}
use Rattle.std.proofs.lemmas.List.Sums.{fold-append}
use Rattle.planus_syntax.specs.Values.{names_of}
use Rattle.planus_resolve.specs.Names.{with_word, space_of}
use Rattle.planus_resolve.proofs.head.dotted_name.Goals as goal

pub returns : goal.returns
returns c =
    let more = names_of c.args.more.now in
    c.in-Ok-put_words.ensures
    ∙ ap (λ out. fold with_word out more) (c.in-Ok-put_word.ensures ∙ ap (λ out. with_word out c.args.first.now) c.in-Ok.ensures)
    ∙ ap (λ out. fold with_word (with_word (fold with_word out (take c.args.count (space_of c.args.space))) c.args.first.now) more) c.new-name.ensures.items
    ∙ sym (fold-append with_word _ (take c.args.count (space_of c.args.space)) (c.args.first.now ∷ more))
