use Rattle.std.proofs.Common.{subst, ◌∙◌, ◌≡◌}
use Rattle.std.specs.Prelude.{IfOk}
use Rattle.std.specs.String.{string_bytes}
use Rattle.planus_cli.specs.Including.{normal}
use Rattle.planus_cli.proofs.include.file_in.Goals as goal

pub returns : goal.returns
returns c =
    subst (λ whole. IfOk c.normal.result (λ name. string_bytes name ≡ normal whole))
    (c.as_str.ensures.value ∙ c.in_ok-whole.ensures.ok) c.normal.ensures
