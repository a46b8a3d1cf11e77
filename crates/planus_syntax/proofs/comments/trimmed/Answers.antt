use Rattle.std.proofs.Common.{rules, ◌∙◌}
use Rattle.planus_syntax.proofs.Trimmed.{full_rest, blank_rest}
use Rattle.planus_syntax.proofs.comments.trimmed.Goals as goal

pub returns-then-not-is_blank : goal.returns-then-not-is_blank
returns-then-not-is_blank c =
    full_rest c.text.rest.now c.in-Some.front.now c.in-Some.last.now (search rules) (search rules) ∙ c.text.invariant

pub text-preserved : goal.text-preserved
text-preserved c =
    blank_rest c.text.rest.now c.in-Some.front.now c.in-Some.last.now (search rules) (search rules) ∙ c.text.invariant
