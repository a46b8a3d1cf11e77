use Rattle.std.proofs.Common.{◌∙◌}
use Rattle.std.specs.Option.{option_copied}
use Rattle.planus_tie.proofs.Tied.{body_viewed}
use Rattle.planus_tie.proofs.files.is_body_view_tied.Goals as goal

pub returns : goal.returns
returns c = body_viewed c.args.naming.now c.args.ranks.now c.args.totals.now c.args.files.now
    c.args.index c.args.body.now c.deref.result.now (option_copied c.text_at-text.result)
    c.is_view_text_tied.result (c.deref.ensures.value ∙ c.in_ok-path.ensures)
    c.text_at-text.ensures c.is_view_text_tied.ensures
