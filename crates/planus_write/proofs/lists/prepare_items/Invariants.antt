use Rattle.std.proofs.Common.{take, length, ◌≡◌, ◌≤◌, vec_len, vec_capacity}
use Rattle.std.specs.Prelude.{Ok}
use Rattle.std.specs.List.{AllByRecursion}
use Rattle.planus_write.specs.Preparing.{PreparesAll}
use Rattle.planus_write.specs.State.{Grows}
use Rattle.planus_write.proofs.lists.prepare_items.Given as goal

abbrev pub invariant-loop-item : goal.invariant-loop-item
invariant-loop-item g l =
    PreparesAll g.T.VectorWrite.outcome (take l.item-index l.items) l.fn.builder (Ok l.values.items) l.builder
    × Grows l.fn.builder l.builder
    × AllByRecursion (λ value. g.T.Value.WriteAsPrimitive.reach value ≤ length l.builder.bytes) l.values.items
    × (vec_len l.values ≡ l.item-index)
    × (length l.items ≤ vec_capacity l.values)
