use Rattle.std.proofs.Common.{subst, Option, Result}
use Rattle.planus_read.specs.declared.located.Error.{Error}
use Rattle.planus.specs.ItemAccessors.{GetsTable}
use Rattle.planus.specs.declared.tables.kind.table_ref.TableRef.{TableRef}
use Rattle.planus.proofs.ItemAccessors.{table_item_is, no_table_item}
use Rattle.planus.proofs.tables.read.table_fields.table_item.Goals as goal

pub returns-in-Some : goal.returns-in-Some
returns-in-Some g c = λ vector index gets.
    let K = g.row.V-Kind.Denot in
    let name = g.V.Kind.TableKind.name in
    table_item_is K name g.V.TableView.table vector index c.in-Some.read c.viewed.result
    c.viewed.ensures
    (subst (λ (item : Option (Result (TableRef K) Error)). GetsTable K name vector index item)
    c.in-Some.is gets)

pub returns-in-None : goal.returns-in-None
returns-in-None g c = λ vector index gets.
    let K = g.row.V-Kind.Denot in
    let name = g.V.Kind.TableKind.name in
    no_table_item K name g.V.TableView.table vector index
    (subst (λ (item : Option (Result (TableRef K) Error)). GetsTable K name vector index item)
    c.in-None.is gets)
