use Rattle.std.proofs.Common.{◌≡◌, ◌+◌, ◌∷◌, [], length, Some}
use Rattle.std.specs.Int.{w32}
use Rattle.planus_read.specs.Bytes.{Num}
use Rattle.planus_read.proofs.Bytes.{parts_stand, whole_stands}
use Rattle.planus_testing.proofs.plain.text_stands_at.Goals as goal

pub returns-then-bytes_stand_at : goal.returns-then-bytes_stand_at
returns-then-bytes_stand_at c =
    let B = c.args.bytes.now in let x = c.args.content.now in let p = c.args.position + 4 in
    let number : Num B c.args.position w32 ≡ Some (length x) = cc in (
      λ r. (
        number,
        whole_stands B x (0 ∷ []) p (c.bytes_stand_at.ensures.0 c.if-bytes_stand_at.true)
            (c.bytes_stand_at-then-bytes_stand_at.ensures.0 r),
      ),
      λ s. c.bytes_stand_at-then-bytes_stand_at.ensures.1 (parts_stand B x (0 ∷ []) p s.1).1,
    )

pub returns-else-bytes_stand_at : goal.returns-else-bytes_stand_at
returns-else-bytes_stand_at c =
    let B = c.args.bytes.now in let x = c.args.content.now in let p = c.args.position + 4 in (
      λ r. absurd (cc (r, c.if-bytes_stand_at.false)),
      λ s. c.bytes_stand_at.ensures.1 (parts_stand B x (0 ∷ []) p s.1).0,
    )
