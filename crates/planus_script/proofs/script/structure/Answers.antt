use Rattle.std.proofs.Common.{◌∷◌, ◌∙◌, ap}
use Rattle.std.specs.Option.{option_copied}
use Rattle.planus_script.specs.Script.{struct_of}
use Rattle.planus_script.specs.Words.{words_behind}
use Rattle.planus_script.proofs.Words.{struct_followed}
use Rattle.planus_script.proofs.script.structure.Goals as goal

pub returns-in-Some-words-2 : goal.returns-in-Some-words-2
returns-in-Some-words-2 c =
    let alignment = c.first_word.result.0.now in
    let digits = c.first_word-2.result.0.now in
    rw c.in-Some.is (ap struct_of (c.first_word.ensures.words ∙ ap (λ o. alignment ∷ words_behind (option_copied o)) c.in-Some-words.is
    ∙ ap (λ words. alignment ∷ words) (c.first_word-2.ensures.words ∙ ap (λ o. digits ∷ words_behind (option_copied o)) c.in-Some-words-2.is))
    ∙ struct_followed alignment digits c.in-Some-words-2.field-0.now)
