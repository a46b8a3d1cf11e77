-- Paths through values in values.
use Rattle.std.proofs.Common.{◌≡◌, ℕ, zero, suc, ◌-◌, ◌<◌, refl, arith}
use Rattle.std.specs.Prelude.{None}
use Rattle.planus_json_syntax.specs.Values.{JsonV}
use Rattle.planus_cli.specs.Paths.{path_to, in_value}

module _ (place : ℕ) (json : JsonV) where
  pub path_ends : (depth : ℕ) → depth ≡ 0 → path_to depth place json ≡ None
  unfolding path_to
  path_ends zero h = refl
  path_ends (suc depth) h = absurd (omega (arith, h))

  pub path_within : (depth : ℕ) → 0 < depth
      → path_to depth place json ≡ in_value (path_to (depth - 1) place) place json
  unfolding path_to
  path_within zero h = absurd (omega (arith, h))
  path_within (suc depth) h =
      let e : suc depth - 1 ≡ depth = omega arith in
      rw e refl
