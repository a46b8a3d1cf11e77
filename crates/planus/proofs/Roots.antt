-- The root of a finish reads back.
use Rattle.std.proofs.Common.{ℕ, List, codes, Option, Result, Ok, Err, subst, sym}
use Rattle.std.specs.Prelude.{IsOkAnd}
use Rattle.planus_read.specs.declared.located.Error.{Error}
use Rattle.planus_read.specs.declared.table_reader.Table.{Table}
use Rattle.planus_read.specs.Located.{Located}
use Rattle.planus_read.specs.Stands.{ReferenceStands}
use Rattle.planus_read.proofs.SliceLaws.{references_lead}
use Rattle.planus_write.specs.Contents.{Content}
use Rattle.planus.specs.ReadBack.{ContentsStand, TableHolds}
use Rattle.planus.specs.ReadKinds.{reads_view}
use Rattle.planus.specs.Roots.{IsRoot}
use Rattle.planus.specs.Views.{reads_as, IsSameView}
use Rattle.planus.specs.declared.tables.kind.table_ref.TableRef.{TableRef}
use Rattle.planus.proofs.Accessors.{view_led}
use Rattle.planus.proofs.FinishedTables.{finished_tables_stand}

module _ {V : Type 0} (name : List ℕ) (table_of : V → Table) (bytes : List ℕ) where
  stood : (contents : List (ℕ × Option Content)) (distance : ℕ) → ContentsStand bytes contents distance
      → ReferenceStands bytes 0 distance → (r : Result V Error)
      → Located (reads_as table_of bytes 0 0) name (codes "read_as_root") 0 r
      → IsOkAnd r (λ view. TableHolds bytes contents (table_of view))
  stood contents distance stands referred (Ok view) h =
      view_led table_of bytes contents distance stands 0 0
      (references_lead bytes 0 distance referred) (Ok view) h
  stood contents distance stands referred (Err e) h =
      view_led table_of bytes contents distance stands 0 0
      (references_lead bytes 0 distance referred) (Err e.error_kind) h.0

  pub root_read : (K : Type 0) (r : Result V Error)
      → Located (reads_as table_of bytes 0 0) name (codes "read_as_root") 0 r
      → IsRoot K name table_of bytes r
  root_read K r h = record {
    answer = h;
    read_back = λ contents distance stands referred. stood contents distance stands referred r h;
    written = λ contents old new offset identifier history writes reached gives apart.
        let kept = writes history.0 history.1 in
        let stands = finished_tables_stand {T = K} contents kept.0 new offset identifier bytes kept.1
        kept.3.1 apart reached gives in
        stood contents offset.distance stands.0 stands.1 r h;
  }

  pub root_viewed : {K : Type 0} (read : Result (TableRef K) Error) (r : Result V Error)
      → IsSameView table_of read r
      → Located (reads_view K bytes 0 0) name (codes "read_as_root") 0 read
      → IsRoot K name table_of bytes r
  root_viewed {K} (Ok found) (Ok view) same h =
      root_read K (Ok view)
      (subst (λ (t : Table). reads_as (λ (t : Table). t) bytes 0 0 (Ok t)) (sym same) h)
  root_viewed {K} (Err e) (Err other) same h =
      subst (λ (e : Error). IsRoot K name table_of bytes (Err e)) (sym same) (root_read K (Err e) h)
  root_viewed {K} (Ok found) (Err other) same h = elim same [ ]
  root_viewed {K} (Err e) (Ok view) same h = elim same [ ]
