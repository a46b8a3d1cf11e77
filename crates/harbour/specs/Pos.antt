-- The layout of `Pos`.
use Rattle.planus.specs.Printed.{Shape, i16_shape, i32_shape, field, no_more, struct_layout}
use Rattle.planus.specs.Printed.{struct_shape}
use Rattle.std.proofs.Common.{refl, lit≤, lit<}
use Rattle.harbour.specs.declared.pos.Pos.{Pos}

abbrev pub pos_shape : Shape Pos 12 4
pos_shape = struct_shape
    (field (λ x. x.lat) i32_shape (field (λ x. x.lon) i32_shape (field (λ x. x.alt) i16_shape
    no_more)))
    (struct_layout 2 3 (lit≤ tt) (lit< tt))
    (λ v. record { lat = v.0; lon = v.1.0; alt = v.1.1.0 })
    (λ x. refl)
