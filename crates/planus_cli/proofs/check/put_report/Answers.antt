use Rattle.std.proofs.Common.{◌<◌, ◌++◌, length, refl, ap, ◌∙◌, subst, sym}
use Rattle.std.proofs.lemmas.Option.{slice_get_read}
use Rattle.planus_cli.specs.SchemaTexts.{HasTokens}
use Rattle.planus_cli.proofs.check.put_report.Goals as goal

pub fault_report-requires : goal.fault_report-requires
fault_report-requires c =
    subst (λ f. HasTokens f.text.items) (sym c.index-files-fault.is)
    (c.requires.tokens c.args.fault.file c.index-files-fault.result c.requires.within)

pub returns : goal.returns
returns c =
    let i = c.args.fault.file in
    let within : i < length c.args.files.now = c.requires.within in
    record {
      report = c.in_ok-report.report.items;
      is = record {
        file = c.index-files-fault.result;
        here = slice_get_read c.args.files.now (length c.args.files.now) i c.index-files-fault.result refl within c.index-files-fault.is;
        is = c.in_ok-report.ensures;
      };
      added = c.in_ok-extend_from_slice.ensures.items ∙ ap (λ xs. c.args.out.now.items ++ xs) c.deref.ensures.value;
    }
