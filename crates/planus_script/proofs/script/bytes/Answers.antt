use Rattle.std.proofs.Common.{◌∷◌, ◌∙◌, ap}
use Rattle.std.specs.Option.{option_copied}
use Rattle.planus_script.specs.Script.{bytes_of}
use Rattle.planus_script.specs.Words.{words_behind}
use Rattle.planus_script.proofs.Words.{bytes_followed}
use Rattle.planus_script.proofs.script.bytes.Goals as goal

pub returns-in-Some-words : goal.returns-in-Some-words
returns-in-Some-words c =
    let digits = c.first_word.result.0.now in
    rw c.in-Some.is (ap bytes_of (c.first_word.ensures.words ∙ ap (λ o. digits ∷ words_behind (option_copied o)) c.in-Some-words.is)
    ∙ bytes_followed digits c.in-Some-words.field-0.now)
