-- The layout of `Plate`.
use Rattle.planus.specs.Printed.{Shape, u8_shape, bool_shape, array_shape, field, no_more}
use Rattle.planus.specs.Printed.{struct_layout, struct_shape}
use Rattle.std.proofs.Common.{refl, lit≤, lit<}
use Rattle.quay.specs.declared.plate.Plate.{Plate}

abbrev pub plate_shape : Shape Plate 5 1
plate_shape = struct_shape
    (field (λ x. x.letters) (array_shape 4 (lit< tt) u8_shape) (field (λ x. x.is_lit) bool_shape
    no_more))
    (struct_layout 0 5 (lit≤ tt) (lit< tt))
    (λ v. record { letters = v.0; is_lit = v.1.0 })
    (λ x. refl)
