use Rattle.std.proofs.Common.{rules}
use Rattle.planus_script.proofs.Named.{names_step}
use Rattle.planus_script.proofs.run.output_of.Goals as goal

pub answer_text-requires : goal.answer_text-requires
answer_text-requires c =
    names_step _ c.args.input.now c.as_slice-in-Ok.result.now c.as_slice.result.now c.in-Ok.script c.replay-answer.result c.as_slice-in-Ok.ensures.value c.as_slice.ensures.value c.in-Ok.ensures
    c.replay-answer.ensures.run

pub returns-in_ok-text-in-Err-Line : goal.returns-in_ok-text-in-Err-Line
returns-in_ok-text-in-Err-Line c = search rules

pub returns-in_ok-text-in-Ok : goal.returns-in_ok-text-in-Ok
returns-in_ok-text-in-Ok c = search rules
