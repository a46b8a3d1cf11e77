-- The layout of `Dive`.
use Rattle.planus.specs.Printed.{Shape, u8_shape, u16_shape, u32_shape, u64_shape}
use Rattle.planus.specs.Printed.{i16_shape, bool_shape, f32_shape, f64_shape, array_shape}
use Rattle.planus.specs.Printed.{field, no_more, struct_layout, struct_shape}
use Rattle.std.proofs.Common.{refl, lit≤, lit<}
use Rattle.quay.specs.declared.dive.Dive.{Dive}
use Rattle.quay.specs.Gear.{gear_shape}
use Rattle.quay.specs.declared.dive.DivePart1.{DivePart1}
use Rattle.quay.specs.declared.dive.DivePart2.{DivePart2}

abbrev pub dive_part_1_shape : Shape DivePart1 40 8
dive_part_1_shape = struct_shape
    (field (λ x. x.day) u64_shape (field (λ x. x.diver) u8_shape
    (field (λ x. x.depths) (array_shape 3 (lit< tt) i16_shape) (field (λ x. x.gear) gear_shape
    (field (λ x. x.seconds) u32_shape (field (λ x. x.is_cold) bool_shape
    (field (λ x. x.pull) f32_shape (field (λ x. x.marks) (array_shape 2 (lit< tt) gear_shape)
    no_more))))))))
    (struct_layout 3 5 (lit≤ tt) (lit< tt))
    (λ v. record {
      day = v.0;
      diver = v.1.0;
      depths = v.1.1.0;
      gear = v.1.1.1.0;
      seconds = v.1.1.1.1.0;
      is_cold = v.1.1.1.1.1.0;
      pull = v.1.1.1.1.1.1.0;
      marks = v.1.1.1.1.1.1.1.0;
    })
    (λ x. refl)

abbrev pub dive_part_1 : Dive → DivePart1
dive_part_1 x =
    record {
      day = x.day;
      diver = x.diver;
      depths = x.depths;
      gear = x.gear;
      seconds = x.seconds;
      is_cold = x.is_cold;
      pull = x.pull;
      marks = x.marks;
    }

abbrev pub dive_part_2_shape : Shape DivePart2 16 8
dive_part_2_shape = struct_shape
    (field (λ x. x.place) f64_shape (field (λ x. x.cracks) u16_shape
    (field (λ x. x.left) gear_shape (field (λ x. x.right) gear_shape
    (field (λ x. x.tied) gear_shape (field (λ x. x.lent) gear_shape
    (field (λ x. x.raised) gear_shape no_more)))))))
    (struct_layout 3 2 (lit≤ tt) (lit< tt))
    (λ v. record {
      place = v.0;
      cracks = v.1.0;
      left = v.1.1.0;
      right = v.1.1.1.0;
      tied = v.1.1.1.1.0;
      lent = v.1.1.1.1.1.0;
      raised = v.1.1.1.1.1.1.0;
    })
    (λ x. refl)

abbrev pub dive_part_2 : Dive → DivePart2
dive_part_2 x =
    record {
      place = x.place;
      cracks = x.cracks;
      left = x.left;
      right = x.right;
      tied = x.tied;
      lent = x.lent;
      raised = x.raised;
    }

abbrev pub dive_of_parts : DivePart1 → DivePart2 → Dive
dive_of_parts p1 p2 =
    record {
      day = p1.day;
      diver = p1.diver;
      depths = p1.depths;
      gear = p1.gear;
      seconds = p1.seconds;
      is_cold = p1.is_cold;
      pull = p1.pull;
      marks = p1.marks;
      place = p2.place;
      cracks = p2.cracks;
      left = p2.left;
      right = p2.right;
      tied = p2.tied;
      lent = p2.lent;
      raised = p2.raised;
    }

abbrev pub dive_shape : Shape Dive 56 8
dive_shape = struct_shape
    (field dive_part_1 dive_part_1_shape (field dive_part_2 dive_part_2_shape no_more))
    (struct_layout 3 7 (lit≤ tt) (lit< tt))
    (λ v. dive_of_parts v.0 v.1.0)
    (λ x. refl)
