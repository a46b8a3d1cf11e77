use Rattle.std.proofs.Common.{◌≡◌, ℕ, List, refl, subst, Result, Ok, Err}
use Rattle.std.specs.Prelude.{IfOk, Option}
use Rattle.std.specs.Global.{Vec}
use Rattle.std.specs.Io.KnownBytes.{Appends}
use Rattle.planus_cli.specs.declared.streams.CallError.{CallError}
use Rattle.planus_cli.specs.declared.formatted.Formatted.TheVariants as formatted
use Rattle.planus_cli.specs.Disks.{Disk}
use Rattle.planus_cli.specs.Files.{PutsFile}
use Rattle.planus_cli.specs.SchemaTexts.{IsFormatted}
use Rattle.planus_cli.specs.Rewriting.{Rewrites}
use Rattle.planus_cli.proofs.format.rewrite.Goals as goal

-- what was put is the canonical text
put_rewrites : (disk : Disk) (name text bytes : List ℕ) (out : Vec ℕ) (unsaid said : Option (List ℕ)) (r : Result ℕ CallError)
    → bytes ≡ out.items → IsFormatted name text (formatted.Text out) → IfOk r (λ status. PutsFile disk name bytes status unsaid said)
    → IfOk r (λ status. Rewrites disk name text status unsaid said)
put_rewrites disk name text bytes out unsaid said (Ok status) e is puts =
    (formatted.Text out, is, subst (λ bs. PutsFile disk name bs status unsaid said) e puts)
put_rewrites disk name text bytes out unsaid said (Err error) e is puts = tt

pub returns-in_ok-write_out-in-Report : goal.returns-in_ok-write_out-in-Report
returns-in_ok-write_out-in-Report g c = (
  formatted.Report c.in-Report.report,
  subst (IsFormatted c.args.name.now c.args.text.now) c.in-Report.is c.in_ok-report.ensures.formatted,
  (refl, subst (Appends (g.X.Write.contents c.args.errors.now) (g.X.Write.contents c.write_out.new.writer)) c.deref.ensures.value c.in_ok-write_out-in-Report.ensures.bytes),
)

pub returns-in-Text : goal.returns-in-Text
returns-in-Text g c =
    put_rewrites (g.F.Files.disk c.args.files.now) c.args.name.now c.args.text.now c.deref-in-Text.result.now c.in-Text.out _ _ c.put_file.result
    c.deref-in-Text.ensures.value
    (subst (IsFormatted c.args.name.now c.args.text.now) c.in-Text.is c.in_ok-report.ensures.formatted)
    c.put_file.ensures
