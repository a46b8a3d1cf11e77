-- The layout of `Gauge`.
use Rattle.planus.specs.Printed.{Shape, i32_shape, field, no_more, struct_layout, struct_shape}
use Rattle.std.proofs.Common.{refl, lit≤, lit<}
use Rattle.verified_ships.specs.declared.gauge.Gauge.{Gauge}

abbrev pub gauge_shape : Shape Gauge 4 4
gauge_shape = struct_shape
    (field (λ x. x.depth) i32_shape no_more)
    (struct_layout 2 1 (lit≤ tt) (lit< tt))
    (λ v. record { depth = v.0 })
    (λ x. refl)
