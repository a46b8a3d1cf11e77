use Rattle.std.proofs.Common.{subst}
use Rattle.planus_script.specs.Asking.{AsksForWords}
use Rattle.planus_script.specs.Script.{command_of_words}
use Rattle.planus_script.specs.inner.Steps.{AnswersLine}
use Rattle.planus_script.specs.Words.{words_of}
use Rattle.planus_script.proofs.Asked.{answers_line}
use Rattle.planus_script.proofs.Words.{not_utf8}
use Rattle.planus_script.proofs.script.step_of.Goals as goal

pub returns-in-Ok : goal.returns-in-Ok
returns-in-Ok c =
    answers_line c.step_of_text.result c.args.line.now c.in-Ok.ensures.cases.1
    (subst (λ text. AnswersLine c.step_of_text.result (command_of_words text (words_of text)) (AsksForWords (words_of text))) c.in-Ok.ensures.cases.0 c.step_of_text.ensures)

pub returns-in-Err : goal.returns-in-Err
returns-in-Err c = not_utf8 c.args.line.now c.in-Err.ensures.cases.0
