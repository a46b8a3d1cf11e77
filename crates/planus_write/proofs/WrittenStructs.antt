-- A struct was written by itself, where a part of its bytes was.
use Rattle.std.proofs.Common.{◌≡◌, ℕ, ◌+◌, ◌-◌, ◌<◌, ◌^◌, ◌∙◌, [], length, sym, subst, arith}
use Rattle.std.proofs.lemmas.Nat.{pow_pos}
use Rattle.planus_read.specs.Plain.{IsLayout}
use Rattle.planus_read.specs.Values.{Plain}
use Rattle.planus_write.specs.History.{unshared_entry}
use Rattle.planus_write.specs.Parts.{apart_entry, filled_part}
use Rattle.planus_write.specs.Placing.{PlacesEntry, Refuses}
use Rattle.planus_write.specs.State.{State}
use Rattle.planus_write.specs.declared.errors.BuildError.{BuildError}

-- a mask and one is the alignment
pub mask_and_one : (size alignment n : ℕ) → IsLayout size alignment → n ≡ alignment
    → n - 1 + 1 ≡ alignment
mask_and_one size alignment n layout same =
    let is : alignment ≡ 2 ^ layout.power.0 = layout.power.2 in
    let some : 0 < 2 ^ layout.power.0 = pow_pos layout.power.0 in
    omega (arith, is, some, same)

module _ (item : Plain) (size alignment : ℕ) (sized : length item.bytes ≡ size)
    (aligned : alignment ≡ item.alignment) (old new : State) where
  pub placed : (distance : ℕ) → distance ≡ length new.bytes
      → PlacesEntry (unshared_entry (filled_part size alignment (λ place n. item.bytes))) [] old
      (length new.bytes) new
      → PlacesEntry (apart_entry item) [] old distance new
  placed distance at put =
      subst (λ distance. PlacesEntry (apart_entry item) [] old distance new) (sym at)
      (subst (λ alignment. PlacesEntry
      (unshared_entry (filled_part (length item.bytes) alignment (λ place n. item.bytes))) [] old
      (length new.bytes) new) aligned
      (subst (λ size. PlacesEntry
      (unshared_entry (filled_part size alignment (λ place n. item.bytes))) [] old
      (length new.bytes) new) (sym sized) put))

  pub refused : (error : BuildError)
      → Refuses (unshared_entry (filled_part size alignment (λ place n. item.bytes))) [] old error
      new
      → Refuses (apart_entry item) [] old error new
  refused error refuses =
      subst (λ alignment. Refuses
      (unshared_entry (filled_part (length item.bytes) alignment (λ place n. item.bytes))) [] old
      error new) aligned
      (subst (λ size. Refuses
      (unshared_entry (filled_part size alignment (λ place n. item.bytes))) [] old error new)
      (sym sized) refuses)
