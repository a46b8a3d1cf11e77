use Rattle.std.proofs.Common.{subst, sym, ap, ◌∙◌, ◌≡◌, map}
use Rattle.std.specs.Prelude.{IfOk, reverse, codes}
use Rattle.std.specs.List.{join_by}
use Rattle.std.specs.String.{string_bytes}
use Rattle.std.proofs.lemmas.List.{reverse-reverse}
use Rattle.planus_cli.specs.Including.{normal, named}
use Rattle.planus_cli.proofs.Included.{joined_texts}
use Rattle.planus_cli.proofs.include.normal.Goals as goal

pub returns : goal.returns
unfolding normal
returns c =
    let segments = c.in_ok-segments.segments.items in
    let same = sym (reverse-reverse (map (λ s. s.now) segments)) ∙ ap reverse c.in_ok-segments.ensures in
    let joined = c.in_ok-name.ensures.ok ∙ ap (λ items. join_by (λ s. s.now) (codes "/") items) c.deref.ensures.value
    ∙ joined_texts (codes "/") segments ∙ ap (λ items. join_by (λ s. s) (codes "/") items) same in
    subst (λ name. IfOk c.named.result (λ all. string_bytes all ≡ named c.args.path.now name)) joined c.named.ensures
