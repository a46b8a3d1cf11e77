use Rattle.std.proofs.Common.{refl, subst, inr}
use Rattle.std.specs.Prelude.{IfSome}
use Rattle.std.specs.Io.KnownBytes.{Appends, Keeps}
use Rattle.planus_cli.specs.declared.parsed.Parsed.TheVariants.{Report}
use Rattle.planus_cli.specs.SchemaTexts.{IsParsed}
use Rattle.planus_cli.specs.Files.{IsTextOf}
use Rattle.planus_cli.proofs.LoadedFiles.{kept_appends}
use Rattle.planus_cli.proofs.sources.read_file.Goals as goal

pub returns-in_ok-write_out-in-Report-clause-failed : goal.returns-in_ok-write_out-in-Report-clause-failed
returns-in_ok-write_out-in-Report-clause-failed g c =
    let Holds = (g.F.Files.disk c.args.files.now).Holds in
    let name = c.args.name.now in
    let text = c.in-Some.text.items in
    let report = c.in-Report.report.items in
    let before = g.X.Write.contents c.args.errors.now in
    let between = g.X.Write.contents c.text_of.new.errors in
    let after = g.X.Write.contents c.write_out.new.writer in
    let kept = subst (λ found. IfSome found (λ _. Keeps before between)) c.in-Some.is c.in_ok-text.ensures.kept in
    let parsed = subst (IsParsed name c.deref.result.now) c.in-Report.is c.in_ok-report.ensures in
    let written = subst (λ bytes. Appends between after bytes) c.deref-in-Report.ensures.value c.in_ok-write_out-in-Report.ensures.bytes in
    inr (
      refl,
      record {
        text = text;
        is = subst (λ found. IfSome found (λ t. IsTextOf Holds name t.items)) c.in-Some.is c.in_ok-text.ensures.text;
        report = report;
        reports = subst (λ t. IsParsed name t (Report c.in-Report.report)) c.deref.ensures.value parsed;
        told = kept_appends before between after report kept written;
      },
    )
