-- How the next part is placed before what is written.
use Rattle.std.specs.Prelude.{◌≡◌, ℕ, ◌+◌, ◌<◌, ◌≤◌, List, ◌∷◌, ◌++◌, length, replicate}
use Rattle.planus_back.specs.Promises.{Promise}
use Rattle.planus_back.specs.Padding.{greatest_place, promise_of, IsLeastPadding}

-- Its bytes may depend on its place.
pub record Part : Type 0 where
  pub size : ℕ
  pub alignment : ℕ
  pub bytes_at : ℕ → List ℕ

pub record Written : Type 0 where
  pub bytes : List ℕ
  pub promises : List Promise

-- least padding, then the part before it, and its constraint
pub record Placed (part : Part) (before after : Written) : Type 0 where
  pub padding : ℕ
  pub place : ℕ
  pub is_least :
      IsLeastPadding (length before.bytes) before.promises part.size part.alignment padding
  pub is_place : place ≡ length before.bytes + padding + part.size
  pub fits : place ≤ greatest_place
  pub bytes : after.bytes ≡ part.bytes_at place ++ replicate padding 0 ++ before.bytes
  pub promises : after.promises ≡ promise_of place part.alignment ∷ before.promises

-- With the least padding its place would be too great.
pub record IsTooLarge (part : Part) (before : Written) : Type 0 where
  pub padding : ℕ
  pub is_least :
      IsLeastPadding (length before.bytes) before.promises part.size part.alignment padding
  pub too_great : greatest_place < length before.bytes + padding + part.size
