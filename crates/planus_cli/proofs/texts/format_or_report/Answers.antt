use Rattle.planus_cli.proofs.Reported.{not_reported}
use Rattle.planus_cli.proofs.texts.format_or_report.Goals as goal

pub returns-in_ok-error_report-in-Err-clause-only :
    goal.returns-in_ok-error_report-in-Err-clause-only
returns-in_ok-error_report-in-Err-clause-only c = λ schema parts whole are spells tokens.
    not_reported _ _ _ _ (c.in-Err.ensures.only schema parts whole are spells tokens) c.in_ok-error_report-in-Err.ensures
