-- What is read from the root of a buffer.
use Rattle.std.specs.Prelude.{ℕ, ◌≤◌, List, codes, length, Option, Result, IsOkAnd, IsTrue}
use Rattle.planus_read.specs.declared.located.Error.{Error}
use Rattle.planus_read.specs.declared.table_reader.Table.{Table}
use Rattle.planus_read.specs.Located.{Located}
use Rattle.planus_read.specs.Stands.{ReferenceStands}
use Rattle.planus_write.specs.Contents.{Content}
use Rattle.planus_write.specs.Finishing.{FinishGives}
use Rattle.planus_write.specs.History.{History}
use Rattle.planus_write.specs.Preparing.{IsPrepared}
use Rattle.planus_write.specs.State.{State, IsHistoryOf}
use Rattle.planus_write.specs.declared.offset.Offset.{Offset}
use Rattle.planus.specs.Contents.{WritesContents}
use Rattle.planus.specs.ReadBack.{are_apart, ContentsStand, TableHolds}
use Rattle.planus.specs.Views.{reads_as}

-- the root's view has the contents with which its table was written
pub record IsRoot {V : Type 0} (K : Type 0) (name : List ℕ) (table_of : V → Table) (bytes : List ℕ)
    (r : Result V Error) : Type 0 where
  pub answer : Located (reads_as table_of bytes 0 0) name (codes "read_as_root") 0 r
  pub read_back :
      (contents : List (ℕ × Option Content)) (distance : ℕ) → ContentsStand bytes contents distance
      → ReferenceStands bytes 0 distance
      → IsOkAnd r (λ view. TableHolds bytes contents (table_of view))
  pub written :
      (contents : List (ℕ × Option Content)) (old new : State) (offset : Offset K)
      (identifier : Option (List ℕ)) → (history : History) × IsHistoryOf old history
      → WritesContents contents old offset.distance new → offset.distance ≤ length new.bytes
      → FinishGives (IsPrepared offset) identifier new bytes → IsTrue (are_apart contents)
      → IsOkAnd r (λ view. TableHolds bytes contents (table_of view))
