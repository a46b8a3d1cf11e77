-- The layout of `Crane`.
use Rattle.planus.specs.Printed.{Shape, u16_shape, u64_shape, array_shape, field, no_more}
use Rattle.planus.specs.Printed.{struct_layout, struct_shape}
use Rattle.std.proofs.Common.{refl, lit≤, lit<}
use Rattle.quay.specs.declared.crane.Crane.{Crane}
use Rattle.quay.specs.Gear.{gear_shape}
use Rattle.quay.specs.Load.{load_shape}

abbrev pub crane_shape : Shape Crane 56 8
crane_shape = struct_shape
    (field (λ x. x.number) u16_shape (field (λ x. x.loads) (array_shape 2 (lit< tt) load_shape)
    (field (λ x. x.spares) (array_shape 3 (lit< tt) gear_shape)
    (field (λ x. x.hours) (array_shape 2 (lit< tt) u64_shape) no_more))))
    (struct_layout 3 7 (lit≤ tt) (lit< tt))
    (λ v. record { number = v.0; loads = v.1.0; spares = v.1.1.0; hours = v.1.1.1.0 })
    (λ x. refl)
