use Rattle.std.specs.Prelude.{◌≡◌, ◌∷◌, []}
use Rattle.planus.specs.Printed.{i16_shape, array_shape}
use Rattle.quay.specs.Gear.{gear_shape}
use Rattle.std.proofs.Common.{arith, rules, lit<}
use Rattle.std.proofs.lemmas.List.{nil_from_length}
use Rattle.planus.specs.Printed.{joined, ended, nothing_more}
use Rattle.quay.proofs.dive.DivePart1Plain.put.Goals as goal

pub returns-clause-encoded : goal.returns-clause-encoded
returns-clause-encoded c =
    let zeros_1 : c.put_fields-copy_from_slice.new.self ≡ 0 ∷ [] =
    c.put_fields-copy_from_slice.ensures.after in
    let items_1 : c.put_fields-put_array.new.bytes ≡
    (array_shape 3 (lit< tt) i16_shape).encoded c.args.self.now.depths = search rules in
    let zeros_2 : c.put_fields-copy_from_slice-2.new.self ≡ 0 ∷ 0 ∷ 0 ∷ [] =
    c.put_fields-copy_from_slice-2.ensures.after in
    let zeros_3 : c.put_fields-copy_from_slice-3.new.self ≡ 0 ∷ 0 ∷ 0 ∷ [] =
    c.put_fields-copy_from_slice-3.ensures.after in
    let items_2 : c.put_fields-put_array-2.new.bytes ≡
    (array_shape 2 (lit< tt) gear_shape).encoded c.args.self.now.marks = search rules in
    let zeros_4 : c.put_fields-copy_from_slice-4.new.self ≡ 0 ∷ 0 ∷ 0 ∷ 0 ∷ 0 ∷ 0 ∷ [] =
    c.put_fields-copy_from_slice-4.ensures.after in
    let none : c.put_fields-split_at_mut-12.result.1.now ≡ [] = nil_from_length _ (omega (
      arith,
      c.requires,
      c.put_fields-split_at_mut.ensures.back_len,
      c.put_fields-split_at_mut-2.ensures.back_len,
      c.put_fields-split_at_mut-3.ensures.back_len,
      c.put_fields-split_at_mut-4.ensures.back_len,
      c.put_fields-split_at_mut-5.ensures.back_len,
      c.put_fields-split_at_mut-6.ensures.back_len,
      c.put_fields-split_at_mut-7.ensures.back_len,
      c.put_fields-split_at_mut-8.ensures.back_len,
      c.put_fields-split_at_mut-9.ensures.back_len,
      c.put_fields-split_at_mut-10.ensures.back_len,
      c.put_fields-split_at_mut-11.ensures.back_len,
      c.put_fields-split_at_mut-12.ensures.back_len,
    )) in
    (joined c.put_fields-put.ensures.encoded (joined c.put_fields-put-2.ensures.encoded
    (joined zeros_1 (joined items_1 (joined c.put_fields-put-3.ensures.encoded (joined zeros_2
    (joined c.put_fields-put-4.ensures.encoded (joined c.put_fields-put-5.ensures.encoded
    (joined zeros_3 (joined c.put_fields-put-6.ensures.encoded (joined items_2
    (ended (nothing_more zeros_4 none))))))))))))).is
