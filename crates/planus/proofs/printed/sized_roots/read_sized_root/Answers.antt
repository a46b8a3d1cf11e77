use Rattle.std.proofs.Common.{ℕ, List, subst}
use Rattle.std.specs.Prelude.{codes}
use Rattle.planus.specs.SizedRoots.{IsSizedRoot, ReadsSized}
use Rattle.planus.proofs.SizedRoots.{located_as, sized_root}
use Rattle.planus.proofs.printed.sized_roots.read_sized_root.Goals as goal

pub returns : goal.returns
returns g c =
    let table_of = g.V.TableView.table in
    let bytes = c.args.bytes.now in
    let name = c.name-name.result.now in
    subst (λ (name : List ℕ). IsSizedRoot name table_of bytes c.locate.result) c.name-name.ensures
    (sized_root table_of bytes name c.locate.result
    (located_as (ReadsSized table_of bytes) c.read_sized.result name (codes "read_as_root") 0
    c.read_sized.ensures c.locate.result c.locate.ensures))
