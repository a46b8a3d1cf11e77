-- The layout of `Pos`.
use Rattle.planus.specs.Printed.{Shape, i32_shape, field, no_more, struct_layout, struct_shape}
use Rattle.std.proofs.Common.{refl, lit≤, lit<}
use Rattle.owned_ships.specs.declared.pos.Pos.{Pos}

abbrev pub pos_shape : Shape Pos 8 4
pos_shape = struct_shape
    (field (λ x. x.lat) i32_shape (field (λ x. x.lon) i32_shape no_more))
    (struct_layout 2 2 (lit≤ tt) (lit< tt))
    (λ v. record { lat = v.0; lon = v.1.0 })
    (λ x. refl)
