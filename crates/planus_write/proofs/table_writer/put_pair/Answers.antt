use Rattle.std.proofs.Common.{◌≡◌, ◌+◌, take, drop, ap, ◌∙◌, refl}
use Rattle.std.specs.Int.{w16, to_le_bytes}
use Rattle.std.proofs.Common.{drop-drop}
use Rattle.planus_write.proofs.table_writer.put_pair.Goals as goal

pub returns : goal.returns
returns c =
    let front : c.split_at_mut-before.result.0.now ≡ take c.args.at c.args.bytes.now = c.split_at_mut-before.ensures.front in
    let back : c.split_at_mut-pair.result.1.now ≡ drop (c.args.at + 2) c.args.bytes.now = c.split_at_mut-pair.ensures.back ∙ ap (drop 2) c.split_at_mut-before.ensures.back ∙ drop-drop 2 c.args.at c.args.bytes.now in
    let pair : c.copy_from_slice.new.self ≡ to_le_bytes w16 c.args.number = c.copy_from_slice.ensures.after ∙ c.to_le_bytes.ensures in
    rw (front, back, pair) refl
