-- A path that is found by a schema's value.
use Rattle.std.proofs.Common.{◌≡◌, ◌∙◌, ℕ, ◌<◌, ◌⊎◌, List, ap, subst}
use Rattle.planus_verify.specs.Schemas.{Shapes}
use Rattle.planus_verify.specs.Soughts.{ends_of}
use Rattle.planus_verify.specs.Trails.{IsTrail, NoTrail, root_tables}
use Rattle.planus_verify.specs.declared.fault.FieldPlace.{FieldPlace}
use Rattle.planus_verify.specs.declared.sought.Sought.{Sought}
use Rattle.planus_views.specs.Names.{NamesV, trail_text}

module _ (given schema : Shapes) (i t depth : ℕ) (sought : Sought) (S : List ℕ)
    (same : given ≡ schema) (index : i ≡ t) where
  pub path_found :
      (names : NamesV) (places steps : List FieldPlace) (path text : List ℕ)
      → IsTrail given i depth (ends_of given sought) S steps → places ≡ steps
      → text ≡ trail_text names places → path ≡ text
      → (trail : List FieldPlace) × IsTrail schema t depth (ends_of schema sought) S trail
      × (path ≡ trail_text names trail)
  path_found names places steps path text leads is said shown = (
    steps,
    subst (λ k. IsTrail schema k depth (ends_of schema sought) S steps) index
        (subst (λ s. IsTrail s i depth (ends_of s sought) S steps) same leads),
    shown ∙ (said ∙ ap (trail_text names) is),
  )

  pub none_found :
      (tables : ℕ)
      → NoTrail given i depth (ends_of given sought) S ⊎ (tables < root_tables given i depth S)
      → NoTrail schema t depth (ends_of schema sought) S ⊎ (tables < root_tables schema t depth S)
  none_found tables h =
      subst (λ k. NoTrail schema k depth (ends_of schema sought) S
      ⊎ (tables < root_tables schema k depth S)) index
      (subst (λ s. NoTrail s i depth (ends_of s sought) S ⊎ (tables < root_tables s i depth S))
      same h)
