-- Remainders and masks that describe constraints.
use Rattle.std.specs.Prelude.{◌≡◌, ℕ, ◌+◌, ◌*◌, ◌≤◌, List, ◌↔◌}
use Rattle.std.specs.List.{AllByRecursion}
use Rattle.planus_back.specs.Promises.{Promise, IsPowerOfTwo, Keep}

-- The lengths from here on that keep every constraint are exactly `length + delayed + k * (mask +
-- 1)`, for k from 0.
pub record Describes (length delayed mask : ℕ) (promises : List Promise) : Type 0 where
  pub powers : AllByRecursion (λ (p : Promise). IsPowerOfTwo p.alignment) promises
  pub reached : AllByRecursion (λ (p : Promise). p.distance ≤ length) promises
  pub kept : (finished : ℕ) → length ≤ finished → Keep promises finished
      ↔ ((k : ℕ) × (finished ≡ length + delayed + k * (mask + 1)))
