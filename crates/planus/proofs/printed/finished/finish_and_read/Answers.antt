use Rattle.planus_write.specs.Preparing.{IsPrepared}
use Rattle.planus_write.specs.lemmas.Laws.{offset_is_lawful}
use Rattle.planus.specs.KeptValues.{ValuesStandIn}
use Rattle.planus.specs.ReadBack.{TableHolds}
use Rattle.planus.specs.FieldLines.{KeptTablesStandIn}
use Rattle.planus.proofs.FieldLines.{ok_also}
use Rattle.planus.proofs.FinishedValues.{values_stand_before, values_stand_finished}
use Rattle.planus.proofs.printed.finished.finish_and_read.Goals as goal

pub returns-clause-read : goal.returns-clause-read
returns-clause-read g c = λ before contents history writes apart.
    let B = c.in_ok-bytes.bytes.now in
    let gives = c.in_ok-bytes.ensures.bytes in
    let keeps : KeptTablesStandIn B before = λ any others distance is_history is_kept are_apart.
    let later = writes any is_history in
    c.finishes_keep_tables.ensures.root_first others later.0 c.args.builder.now distance
    c.args.root c.args.identifier B later.1
    (c.kept_tables_stay.ensures any later.0 others distance later.2 is_kept) are_apart
    c.requires gives in
    let values : ValuesStandIn B before =
    (let later = writes history.0 history.1 in
    values_stand_before before c.args.builder.now history.0 later.0 history.1 later.1 later.2 B
    (values_stand_finished _ IsPrepared offset_is_lawful c.args.builder.now c.args.root
    c.args.identifier B c.requires gives)) in
    ok_also (λ view. TableHolds B contents (g.V.TableView.table view)) _ c.read_root.result
    (λ view holds. (B, gives, keeps, values, holds))
    (c.read_root.ensures.written contents before c.args.builder.now c.args.root c.args.identifier history
    writes c.requires gives apart)
