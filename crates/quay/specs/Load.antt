-- The layout of `Load`.
use Rattle.planus.specs.Printed.{Shape, f32_shape, array_shape, field, no_more}
use Rattle.planus.specs.Printed.{struct_layout, struct_shape}
use Rattle.std.proofs.Common.{refl, lit≤, lit<}
use Rattle.quay.specs.Gear.{gear_shape}
use Rattle.quay.specs.declared.load.Load.{Load}

abbrev pub load_shape : Shape Load 16 4
load_shape = struct_shape
    (field (λ x. x.pulls) (array_shape 3 (lit< tt) f32_shape) (field (λ x. x.gear) gear_shape
    no_more))
    (struct_layout 2 4 (lit≤ tt) (lit< tt))
    (λ v. record { pulls = v.0; gear = v.1.0 })
    (λ x. refl)
