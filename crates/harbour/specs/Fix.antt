-- The layout of `Fix`.
use Rattle.planus.specs.Printed.{Shape, u64_shape, field, no_more, struct_layout}
use Rattle.planus.specs.Printed.{struct_shape}
use Rattle.std.proofs.Common.{refl, lit≤, lit<}
use Rattle.harbour.specs.declared.fix.Fix.{Fix}
use Rattle.harbour.specs.Kind.{kind_shape}
use Rattle.harbour.specs.Pos.{pos_shape}

abbrev pub fix_shape : Shape Fix 24 8
fix_shape = struct_shape
    (field (λ x. x.when) u64_shape (field (λ x. x.at) pos_shape (field (λ x. x.kind) kind_shape
    no_more)))
    (struct_layout 3 3 (lit≤ tt) (lit< tt))
    (λ v. record { when = v.0; at = v.1.0; kind = v.1.1.0 })
    (λ x. refl)
