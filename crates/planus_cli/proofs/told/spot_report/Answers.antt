use Rattle.std.proofs.Common.{◌<◌, length, refl, subst, sym}
use Rattle.std.proofs.lemmas.Option.{slice_get_read}
use Rattle.planus_cli.specs.SchemaTexts.{HasTokens, ReportsAt}
use Rattle.planus_cli.proofs.LoadedFiles.{if_ok}
use Rattle.planus_cli.proofs.told.spot_report.Goals as goal

pub placed_report-requires : goal.placed_report-requires
placed_report-requires c =
    subst HasTokens (sym c.deref.ensures.value) (subst (λ f. HasTokens f.text.items) (sym c.index-files-spot.is)
    (c.requires.tokens c.args.spot.file c.index-files-spot.result c.requires.within))

pub returns : goal.returns
returns c =
    let i = c.args.spot.file in
    let file = c.index-files-spot.result in
    let within : i < length c.args.files.now = c.requires.within in
    let left = c.args.spot.left in
    let message = c.args.message.now in
    if_ok c.placed_report.result (λ out is. record {
      file = file;
      here = slice_get_read c.args.files.now (length c.args.files.now) i file refl within c.index-files-spot.is;
      is = subst (λ name. ReportsAt name file.text.items left message out.items) c.as_str.ensures.value
          (subst (λ text. ReportsAt c.as_str.result.now text left message out.items) c.deref.ensures.value is);
    })
    c.placed_report.ensures
