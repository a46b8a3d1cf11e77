use Rattle.std.proofs.Common.{◌∷◌, ◌∙◌, ap}
use Rattle.std.specs.Option.{option_copied}
use Rattle.planus.specs.Steps.{front_of}
use Rattle.planus_script.specs.Script.{finish_of}
use Rattle.planus_script.specs.Words.{words_behind}
use Rattle.planus_script.proofs.Words.{finish_followed}
use Rattle.planus_script.proofs.script.finish.Goals as goal

pub returns-in-Some-words-2 : goal.returns-in-Some-words-2
returns-in-Some-words-2 c =
    let root = c.first_word.result.0.now in
    let name = c.first_word-2.result.0.now in
    rw c.in-Some.is (ap (finish_of (front_of c.args.sized)) (c.first_word.ensures.words ∙ ap (λ o. root ∷ words_behind (option_copied o)) c.in-Some-words.is
    ∙ ap (λ words. root ∷ words) (c.first_word-2.ensures.words ∙ ap (λ o. name ∷ words_behind (option_copied o)) c.in-Some-words-2.is))
    ∙ finish_followed (front_of c.args.sized) root name c.in-Some-words-2.field-0.now)
