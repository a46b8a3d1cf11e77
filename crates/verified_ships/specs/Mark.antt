-- The layout of `Mark`.
use Rattle.planus.specs.Printed.{Shape, field, no_more, struct_layout, struct_shape}
use Rattle.std.proofs.Common.{refl, lit≤, lit<}
use Rattle.verified_ships.specs.declared.mark.Mark.{Mark}
use Rattle.verified_ships.specs.Kind.{kind_shape}

abbrev pub mark_shape : Shape Mark 1 1
mark_shape = struct_shape
    (field (λ x. x.kind) kind_shape no_more)
    (struct_layout 0 1 (lit≤ tt) (lit< tt))
    (λ v. record { kind = v.0 })
    (λ x. refl)
