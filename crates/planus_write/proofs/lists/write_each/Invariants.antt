use Rattle.std.proofs.Common.{◌≡◌, ◌*◌, ◌++◌, length, map, take, drop}
use Rattle.planus_write.specs.Parts.{items_bytes}
use Rattle.planus_write.proofs.lists.write_each.Given as goal

abbrev pub invariant-loop-value : goal.invariant-loop-value
invariant-loop-value g l =
    (l.at ≡ l.value-index * g.P.Primitive.SIZE)
    × (length (items_bytes g.P.Primitive.SIZE l.place (map g.V.WriteAsPrimitive.encoding (take l.value-index l.values))) ≡ l.value-index * g.P.Primitive.SIZE)
    × (l.bytes ≡ items_bytes g.P.Primitive.SIZE l.place (map g.V.WriteAsPrimitive.encoding (take l.value-index l.values)) ++ drop (l.value-index * g.P.Primitive.SIZE) l.fn.bytes)
