use Rattle.std.proofs.Common.{◌≡◌, ◌+◌, ℕ, List, [], ◌∷◌, ◌++◌, false, Ok, Option, Some, None, Err, ap, sym, ◌∙◌, subst, arith, rules}
use Rattle.std.specs.Prelude.{MatchOption}
use Rattle.std.specs.Borrow.{Bor}
use Rattle.std.proofs.lemmas.List.{map-append}
use Rattle.planus.specs.Steps.{bare_step}
use Rattle.planus_script.specs.Asking.{AsksForLines}
use Rattle.planus_script.specs.Script.{lines_of, read_lines, script_of, command_of, is_skipped}
use Rattle.planus_script.specs.inner.Steps.{read_of}
use Rattle.planus_script.specs.declared.script.ReadFault.{ReadFault}
use Rattle.planus_script.proofs.Asked.{asks_step}
use Rattle.planus_script.proofs.ReadOn.{onto_front, onto_empty, and_then, lines_left, after_step, after_fault}
use Rattle.planus_script.proofs.script.parse.Goals as goal

pub loop-rest-init : goal.loop-rest-init
loop-rest-init c = record {
  read = ap (λ front. onto_front front (script_of c.args.input.now)) c.new-script.ensures ∙ onto_empty (script_of c.args.input.now);
  asks = λ asks. asks;
  bound = omega arith;
}

cut : (text line : List ℕ) (more : Option (Bor (List ℕ))) → MatchOption more (lines_of text ≡ line ∷ []) (λ rest. lines_of text ≡ line ∷ lines_of rest.now) → lines_of text ≡ line ∷ lines_left more
cut text line None h = h
cut text line (Some rest) h = h

pub loop-rest-preserved : goal.loop-rest-preserved
loop-rest-preserved c =
    let front = read_of c.loop-rest.script in
    let number = c.loop-rest.number + 1 in
    let line = c.first_line.result.0.now in
    let more = c.first_line.result.1 in
    let command = bare_step c.in-Ok.step in
    let lines = cut c.in-Some.text.now line more c.first_line.ensures.lines in
    let kept : is_skipped line ≡ false = (cc) in
    let said : command_of line ≡ Ok command = search rules in
    let pushed : read_of c.push.new.self ≡ and_then front number command =
    c.in_ok-push.ensures.ok ∙ ap (λ commands. record { numbers = front.numbers ++ number ∷ []; commands = commands }) (map-append bare_step c.loop-rest.script.steps.items (c.in-Ok.step ∷ [])) in
    record {
      read = ap (λ read. onto_front read (read_lines (number + 1) (lines_left more))) pushed
          ∙ sym (after_step front number line (lines_left more) command kept said)
          ∙ ap (λ lines. onto_front front (read_lines number lines)) (sym lines)
          ∙ ap (λ rest. onto_front front (read_lines number (lines_left rest))) (sym c.in-Some.is)
          ∙ c.loop-rest.invariant.read;
      asks = λ _. c.loop-rest.invariant.asks (rw c.in-Some.is (subst AsksForLines (sym lines) (asks_step line (lines_left more) command kept said)));
      bound = search rules;
    }

pub returns-in-Err-Fault : goal.returns-in-Err-Fault
returns-in-Err-Fault c =
    let front = read_of c.loop-rest.script in
    let number = c.loop-rest.number + 1 in
    let line = c.first_line.result.0.now in
    sym c.loop-rest.invariant.read
    ∙ ap (λ rest. onto_front front (read_lines number (lines_left rest))) c.in-Some.is
    ∙ ap (λ lines. onto_front front (read_lines number lines)) (cut c.in-Some.text.now line c.first_line.result.1 c.first_line.ensures.lines)
    ∙ after_fault front number line (lines_left c.first_line.result.1) c.in-Err-Fault.fault (cc) (rw c.in-Err-Fault.field-0-is at c.in-Err-Fault.ensures)
    ∙ ap (λ (fault : ReadFault). Err (number, fault)) (sym c.in-Err-Fault.fault-is)
