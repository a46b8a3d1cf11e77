use Rattle.std.proofs.Common.{ap, sym, ◌∙◌, Ok, subst, IsUtf8}
use Rattle.std.proofs.lemmas.Bool.{false≢true}
use Rattle.std.proofs.lemmas.Str.{IsUtf8-string_bytes}
use Rattle.planus_json_syntax.proofs.Contents.{closed_ok, closed_err}
use Rattle.planus_json_syntax.proofs.strings.closed.Goals as goal

pub returns-in-Ok-clause-reads : goal.returns-in-Ok-clause-reads
returns-in-Ok-clause-reads c =
    let e = ap (λ v. v.items) c.in-Ok.ensures.ok in
    closed_ok c.args.said.items c.args.rest.now (subst IsUtf8 e (IsUtf8-string_bytes c.in-Ok.text)) ∙ ap (λ bs. Ok (bs, c.args.rest.now)) (sym e)

pub returns-clause-reads : goal.returns-clause-reads
returns-clause-reads c = closed_err c.args.said.items c.args.rest.now (λ u. false≢true (c.in-Err.ensures.succeeds u))
