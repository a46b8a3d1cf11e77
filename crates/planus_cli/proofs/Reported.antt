-- Reports.
use Rattle.std.proofs.Common.{ℕ, List, [], ◌∷◌, ◌++◌, refl, sym, ap, ◌∙◌}
use Rattle.std.proofs.Common.{append-nil, append_assoc}
use Rattle.planus_syntax.specs.Parsed.{IsMemoryError}
use Rattle.planus_syntax.specs.declared.text.SchemaError.{SchemaError}
use Rattle.planus_syntax.specs.declared.text.SchemaError.TheVariants as whole
use Rattle.planus_resolve.specs.Names.{HeadV}
use Rattle.planus_resolve.specs.declared.fault.Fault.{Fault}
use Rattle.planus_cli.specs.declared.check.File.{File}
use Rattle.planus_cli.specs.Checks.{AreReports, IsReportAdded}
use Rattle.planus_cli.specs.SchemaTexts.{ReportsError}

pub reports_push : (hs : List HeadV) (files : List File) (faults : List Fault) (fault : Fault) (old new : List ℕ)
    → AreReports hs files faults old → IsReportAdded hs files fault old new
    → AreReports hs files (faults ++ fault ∷ []) new
reports_push hs files [] fault old new e a = record {
  first = a.report;
  rest = [];
  is = a.is;
  are = refl;
  joined = a.added ∙ ap (λ x. x ++ a.report) e ∙ sym (append-nil a.report);
}
reports_push hs files (f ∷ fs) fault old new j a = record {
  first = j.first;
  rest = j.rest ++ a.report;
  is = j.is;
  are = reports_push hs files fs fault j.rest (j.rest ++ a.report) j.are (record {
    report = a.report;
    is = a.is;
    added = refl;
  });
  joined = a.added ∙ ap (λ x. x ++ a.report) j.joined ∙ append_assoc j.first j.rest a.report;
}

-- refused memory is not reported
pub not_reported : (name text : List ℕ) (e : SchemaError) (report : List ℕ) → IsMemoryError e → ReportsError name text e report → ⊥
not_reported name text whole.OutOfMemory report h r = r
not_reported name text (whole.Token fault at) report h r = h
not_reported name text (whole.Declaration fault index at) report h r = h
