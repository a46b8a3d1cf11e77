use Rattle.std.proofs.Common.{take, length, map, List, ◌≡◌, ◌≤◌, vec_len, vec_capacity}
use Rattle.std.specs.Prelude.{Ok}
use Rattle.std.specs.List.{AllByRecursion}
use Rattle.planus_write.specs.Preparing.{PreparesAll}
use Rattle.planus_write.specs.State.{Grows}
use Rattle.planus_write.specs.declared.union_offset.UnionOffset.{UnionOffset}
use Rattle.planus_write.proofs.unions.prepare_unions.Given as goal

abbrev pub invariant-loop-item : goal.invariant-loop-item
invariant-loop-item g l = (unions : List (UnionOffset g.row.T.Denot))
    × PreparesAll g.U.WriteAsUnion.outcome (take l.item-index l.items) l.fn.builder (Ok unions) l.builder
    × (l.tags.items ≡ map (λ union. union.tag) unions)
    × (l.values.items ≡ map (λ union. union.offset) unions)
    × Grows l.fn.builder l.builder
    × AllByRecursion (λ value. value.distance ≤ length l.builder.bytes) l.values.items
    × (vec_len l.tags ≡ l.item-index)
    × (vec_len l.values ≡ l.item-index)
    × (length l.items ≤ vec_capacity l.tags)
    × (length l.items ≤ vec_capacity l.values)
