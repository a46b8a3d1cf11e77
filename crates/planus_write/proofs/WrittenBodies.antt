-- A body that is written slice by slice.
use Rattle.std.proofs.Common.{◌≡◌, ℕ, ◌+◌, ◌-◌, ◌++◌, arith, refl, append_assoc}
use Rattle.planus_write.specs.Items.{Item}
use Rattle.planus_write.specs.ObjectWriting.{ObjectBody, wrote}

pub wrote_both : (m n : ℕ) (first second both : Item) (body : ObjectBody) → both body.place ≡ first body.place ++ second (body.place - m)
    → wrote n second (wrote m first body) ≡ wrote (m + n) both body
wrote_both m n first second both body are =
    let left : body.remaining - m - n ≡ body.remaining - (m + n) = omega arith in
    let next : body.place - m - n ≡ body.place - (m + n) = omega arith in
    let bytes = append_assoc body.written (first body.place) (second (body.place - m)) in
    rw (left, next, are, bytes) refl
