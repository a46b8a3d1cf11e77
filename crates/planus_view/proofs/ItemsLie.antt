-- Where the items of a sub-view are.
use Rattle.std.proofs.Common.{◌≡◌, ℕ, ◌-◌, ◌*◌, ◌≤◌, arith}
use Rattle.std.proofs.Math.Nat.{mul-sub, mul-le-mul_left, mul_comm}

pub items_lie :
    (lo hi n w len : ℕ) → lo ≤ hi → hi ≤ n → n * w ≤ len → (hi - lo) * w ≤ len - lo * w
items_lie lo hi n w len a b c =
    let e : w * (hi - lo) ≡ w * hi - w * lo = mul-sub w hi lo in
    let m : w * hi ≤ w * n = mul-le-mul_left w b in
    omega (arith, e, m, mul_comm (hi - lo) w, mul_comm n w, mul_comm lo w)
