-- The layout of `Gauge`.
use Rattle.planus.specs.Printed.{Shape, i32_shape, bool_shape, field, force_align, no_more}
use Rattle.planus.specs.Printed.{struct_layout, struct_shape}
use Rattle.std.proofs.Common.{refl, lit≤, lit<}
use Rattle.harbour.specs.declared.gauge.Gauge.{Gauge}

abbrev pub gauge_shape : Shape Gauge 8 8
gauge_shape = struct_shape
    (force_align 8 (field (λ x. x.depth) i32_shape (field (λ x. x.rises) bool_shape no_more)))
    (struct_layout 3 1 (lit≤ tt) (lit< tt))
    (λ v. record { depth = v.0; rises = v.1.0 })
    (λ x. refl)
