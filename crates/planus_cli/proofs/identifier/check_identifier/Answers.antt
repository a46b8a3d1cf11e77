use Rattle.std.proofs.Common.{◌≡◌, ℕ, false, ap, ◌∙◌, subst}
use Rattle.std.specs.Option.{option_map}
use Rattle.std.specs.Global.{Vec}
use Rattle.std.specs.Io.KnownBytes.{Appends}
use Rattle.planus_dump.specs.Writing.{WritesBeginning}
use Rattle.planus_cli.specs.Buffers.{has_identifier, other_identifier_text}
use Rattle.planus_cli.proofs.Failing.{on_err, none_begun, other_begun, other_said}
use Rattle.planus_cli.proofs.identifier.check_identifier.Goals as goal

pub returns-in_err-text-in-Some-clause-failed : goal.returns-in_err-text-in-Some-clause-failed
returns-in_err-text-in-Some-clause-failed g c =
    let identifier = c.in-Some.identifier.items in let name = c.args.name.now in let bytes = c.args.bytes.now in
    let is = ap (option_map (λ (v : Vec ℕ). v.items)) c.in-Some.is in
    let other : has_identifier identifier bytes ≡ false = cc in
    let before = g.X.Write.contents c.args.errors.now in
    on_err c.from_residual.result _ (other_begun _ identifier name bytes before before is other (none_begun (other_identifier_text name identifier) before))

pub returns-in_err-write_out-in-Some-clause-failed : goal.returns-in_err-write_out-in-Some-clause-failed
returns-in_err-write_out-in-Some-clause-failed g c =
    let identifier = c.in-Some.identifier.items in let name = c.args.name.now in let bytes = c.args.bytes.now in
    let is = ap (option_map (λ (v : Vec ℕ). v.items)) c.in-Some.is in
    let other : has_identifier identifier bytes ≡ false = cc in
    let before = g.X.Write.contents c.args.errors.now in let after = g.X.Write.contents c.write_out.new.writer in
    let text = c.deref-in-Some-2.ensures.value ∙ c.in_ok-text-in-Some.ensures ∙ ap (other_identifier_text name) c.deref-in-Some.ensures.value in
    on_err c.from_residual-in_err-write_out-in-Some.result _ (other_begun _ identifier name bytes before after is other
    (subst (λ said. WritesBeginning said before after) text c.in_err-write_out-in-Some.ensures.begun))

pub returns-in_ok-write_out-in-Some-clause-told : goal.returns-in_ok-write_out-in-Some-clause-told
returns-in_ok-write_out-in-Some-clause-told g c =
    let identifier = c.in-Some.identifier.items in let name = c.args.name.now in let bytes = c.args.bytes.now in
    let is = ap (option_map (λ (v : Vec ℕ). v.items)) c.in-Some.is in
    let other : has_identifier identifier bytes ≡ false = cc in
    let before = g.X.Write.contents c.args.errors.now in let after = g.X.Write.contents c.write_out.new.writer in
    let text = c.deref-in-Some-2.ensures.value ∙ c.in_ok-text-in-Some.ensures ∙ ap (other_identifier_text name) c.deref-in-Some.ensures.value in
    other_said _ identifier name bytes before after is other (subst (Appends before after) text c.in_ok-write_out-in-Some.ensures.bytes)
