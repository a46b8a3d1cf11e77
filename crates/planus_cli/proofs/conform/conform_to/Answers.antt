use Rattle.std.proofs.Common.{map, subst, inr}
use Rattle.std.specs.Prelude.{IfOk}
use Rattle.planus_cli.specs.Conforming.{AreRenamesOf, Compares}
use Rattle.planus_cli.specs.Including.{file_named}
use Rattle.planus_cli.specs.Loading.{places_of}
use Rattle.planus_cli.specs.Sources.{HasMeaning}
use Rattle.planus_cli.proofs.LoadedFiles.{if_ok}
use Rattle.planus_cli.proofs.conform.conform_to.Goals as goal

pub returns-in-Ok : goal.returns-in-Ok
returns-in-Ok g c =
    let disk = g.F.Files.disk c.args.files.now in
    let name = file_named c.args.word.now in
    let unsaid = g.X.Write.contents c.args.errors.now in
    let told = g.X.Write.contents c.meaning_at.new.errors in
    let said = g.X.Write.contents c.compare.new.errors in
    let before = g.W.Write.contents c.args.writer.now in
    let after = g.W.Write.contents c.compare.new.writer in
    let json = c.args.words.now.json in
    let old = c.args.old.now in
    let new = c.in-Ok.new in
    let found = subst (λ found. IfOk found (λ meaning. HasMeaning (places_of disk c.deref.result.now) name meaning unsaid told)) c.in-Ok.is
    c.in_ok-found.ensures.means in
    let has = subst (λ folders. HasMeaning (places_of disk folders) name new unsaid told) c.deref.ensures.value found in
    let renames = c.in_ok-renames-in-Ok.renames.items in
    let are = subst (λ ws. AreRenamesOf (map (λ w. w.now) ws) renames) c.deref-in-Ok.ensures.value c.in_ok-renames-in-Ok.ensures in
    if_ok c.compare.result (λ status compares. inr (record {
      new = new;
      told = told;
      found = has;
      renames = renames;
      are = are;
      compares = subst (λ way. Compares json way renames old new status before after told said) c.way_by-way.ensures
          (subst (λ rs. Compares json c.way_by-way.result rs old new status before after told said) c.deref-in-Ok-2.ensures.value compares);
    }))
    c.compare.ensures
