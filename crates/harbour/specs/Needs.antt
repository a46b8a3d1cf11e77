-- The layout of `Needs`.
use Rattle.planus.specs.Printed.{Shape, u16_shape, field, no_more, struct_layout}
use Rattle.planus.specs.Printed.{struct_shape}
use Rattle.std.proofs.Common.{refl, lit≤, lit<}
use Rattle.harbour.specs.declared.needs.Needs.{Needs}

abbrev pub needs_shape : Shape Needs 2 2
needs_shape = struct_shape (field (λ x. x.bits) u16_shape no_more)
    (struct_layout 1 1 (lit≤ tt) (lit< tt)) (λ v. record { bits = v.0 }) (λ x. refl)
