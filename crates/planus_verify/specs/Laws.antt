-- Laws of verification.
use Rattle.std.specs.Prelude.{◌≡◌, ℕ, ◌+◌, ◌<◌, ◌⊎◌, List, Ok, Err}
use Rattle.planus_verify.specs.Schemas.{Shapes}
use Rattle.planus_verify.specs.Verified.{Verified, tables_in}
use Rattle.planus_verify.specs.Walks.{Walks}
use Rattle.planus_verify.specs.declared.fault.Fault.{Fault}
use Rattle.planus_verify.specs.declared.fault.Fault.TheVariants as fault

module _ (schema : Shapes) (depth t : ℕ) (S V : List ℕ) (start left : ℕ) where
  -- What passes is verified, and all its tables were counted.
  abbrev pub PassedIsVerified : Type 0
  PassedIsVerified =
      (rest : ℕ) → Walks schema depth t S V start left (Ok rest)
      → Verified schema depth t S V start
      × (left ≡ rest + tables_in schema depth t S V start)

  -- What is verified to a depth of m is refused only by a limit.
  abbrev pub VerifiedPasses : Type 0
  VerifiedPasses =
      (m : ℕ) (found : Fault) → Walks schema depth t S V start left (Err found)
      → Verified schema m t S V start
      → ((found ≡ fault.TooDeep) × (depth < m))
      ⊎ ((found ≡ fault.TooMany) × (left < tables_in schema m t S V start))
