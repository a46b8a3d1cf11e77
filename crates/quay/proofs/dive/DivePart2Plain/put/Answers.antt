use Rattle.std.specs.Prelude.{◌≡◌, ◌∷◌, []}
use Rattle.std.proofs.Common.{arith}
use Rattle.std.proofs.lemmas.List.{nil_from_length}
use Rattle.planus.specs.Printed.{joined, ended, nothing_more}
use Rattle.quay.proofs.dive.DivePart2Plain.put.Goals as goal

pub returns-clause-encoded : goal.returns-clause-encoded
returns-clause-encoded c =
    let zeros_1 : c.put_fields-copy_from_slice.new.self ≡ 0 ∷ [] =
    c.put_fields-copy_from_slice.ensures.after in
    let none : c.put_fields-split_at_mut-8.result.1.now ≡ [] = nil_from_length _ (omega (
      arith,
      c.requires,
      c.put_fields-split_at_mut.ensures.back_len,
      c.put_fields-split_at_mut-2.ensures.back_len,
      c.put_fields-split_at_mut-3.ensures.back_len,
      c.put_fields-split_at_mut-4.ensures.back_len,
      c.put_fields-split_at_mut-5.ensures.back_len,
      c.put_fields-split_at_mut-6.ensures.back_len,
      c.put_fields-split_at_mut-7.ensures.back_len,
      c.put_fields-split_at_mut-8.ensures.back_len,
    )) in
    (joined c.put_fields-put.ensures.encoded (joined c.put_fields-put-2.ensures.encoded
    (joined c.put_fields-put-3.ensures.encoded (joined c.put_fields-put-4.ensures.encoded
    (joined c.put_fields-put-5.ensures.encoded (joined c.put_fields-put-6.ensures.encoded
    (joined c.put_fields-put-7.ensures.encoded (ended (nothing_more zeros_1 none))))))))).is
