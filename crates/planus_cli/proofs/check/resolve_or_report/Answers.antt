use Rattle.std.proofs.Common.{length}
use Rattle.std.proofs.KnownBytes.{Keeps-refl}
use Rattle.planus_cli.proofs.SpelledFiles.{spelled_all, spelled_length, within_files}
use Rattle.planus_cli.proofs.check.resolve_or_report.Goals as goal

pub returns-in-Ok-clause-resolved : goal.returns-in-Ok-clause-resolved
returns-in-Ok-clause-resolved g c =
    (c.in-Ok.ensures.none, c.in-Ok.ensures.means, c.in-Ok.ensures.sound, Keeps-refl (g.X.Write.contents c.args.errors.now))

pub reports-requires-clause-within : goal.reports-requires-clause-within
reports-requires-clause-within g c =
    within_files (length c.args.declarations.now) (length c.args.files.now) c.in-Err-Faults.field-0 c.in-Err-Faults.faults
    c.deref-in-Err-Faults.result.now (spelled_length c.args.files.now c.args.declarations.now c.requires)
    c.in-Err-Faults.field-0-is c.deref-in-Err-Faults.ensures.value c.in-Err-Faults.ensures.within

pub reports-requires-clause-tokens : goal.reports-requires-clause-tokens
reports-requires-clause-tokens g c = spelled_all c.args.files.now c.args.declarations.now c.requires
