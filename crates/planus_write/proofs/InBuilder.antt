-- What is in a builder stays there.
use Rattle.std.proofs.Common.{List, [], ◌∷◌}
use Rattle.planus_write.specs.InBuilder.{IsIn, AllIn, AllUnionsIn}
use Rattle.planus_write.specs.lemmas.Laws.{reached_still}
use Rattle.planus_write.specs.State.{State, Grows}
use Rattle.planus_write.specs.declared.offset.Offset.{Offset}
use Rattle.planus_write.specs.declared.union_offset.UnionOffset.{UnionOffset}

pub stays_in : {T : Type 0} (offset : Offset T) (old new : State) → Grows old new → IsIn old offset
    → IsIn new offset
stays_in offset old new grows is = reached_still offset.distance old new grows is

pub all_stay_in : {T : Type 0} (offsets : List (Offset T)) (old new : State) → Grows old new
    → AllIn old offsets → AllIn new offsets
all_stay_in [] old new grows are = tt
all_stay_in (offset ∷ offsets) old new grows are =
    (stays_in offset old new grows are.0, all_stay_in offsets old new grows are.1)

pub all_unions_stay_in : {T : Type 0} (unions : List (UnionOffset T)) (old new : State)
    → Grows old new → AllUnionsIn old unions → AllUnionsIn new unions
all_unions_stay_in [] old new grows are = tt
all_unions_stay_in (union ∷ unions) old new grows are =
    (stays_in union.offset old new grows are.0, all_unions_stay_in unions old new grows are.1)
