-- The fields of structs, and of flags.
use Rattle.std.proofs.Common.{refl, lit≤, lit<}
use Rattle.planus.specs.read.Plain.{Shape}
use Rattle.planus.specs.read.Shapes.{u8_shape, i16_shape, i32_shape}
use Rattle.planus.specs.read.Structs.{field, no_more, struct_layout, struct_shape}
use Rattle.by_hand.specs.declared.pos.Pos.{Pos}
use Rattle.by_hand.specs.declared.features.Features.{Features}

abbrev pub pos_shape : Shape Pos 12 4
pos_shape = struct_shape
    (field (λ p. p.lat) i32_shape
    (field (λ p. p.lon) i32_shape (field (λ p. p.alt) i16_shape no_more)))
    (struct_layout 2 3 (lit≤ tt) (lit< tt)) (λ v. record { lat = v.0; lon = v.1.0; alt = v.1.1.0 })
    (λ p. refl)

abbrev pub features_shape : Shape Features 1 1
features_shape = struct_shape (field (λ f. f.bits) u8_shape no_more)
    (struct_layout 0 1 (lit≤ tt) (lit< tt)) (λ v. record { bits = v.0 }) (λ f. refl)
