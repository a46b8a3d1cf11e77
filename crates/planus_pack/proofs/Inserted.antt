-- Where a field is inserted.
use Rattle.std.proofs.Common.{◌≡◌, List, [], ◌∷◌, Bool, true, false, refl, ap, map}
use Rattle.std.specs.Prelude.{nat_lt}
use Rattle.std.specs.List.{insert}
use Rattle.planus.specs.declared.replaying.steps.Field.{Field}
use Rattle.planus.specs.Steps.{bare_field, content_of}
use Rattle.planus_pack.specs.Fields.{alignment_of, place_in, inserted}

module _ (f : Field) where
  abbrev inserts : List Field → Type 0
  inserts fs = map bare_field
      (insert fs (place_in (alignment_of (content_of f.value)) (map bare_field fs)) f)
      ≡ inserted (bare_field f) (map bare_field fs)

  abbrev is_less : Field → Bool
  is_less g = nat_lt (alignment_of (content_of g.value)) (alignment_of (content_of f.value))

  by_less : (g : Field) (gs : List Field) (less : Bool) → is_less g ≡ less → inserts gs
      → inserts (g ∷ gs)
  by_less g gs true h others = rw h refl
  by_less g gs false h others = rw h (ap (λ hs. bare_field g ∷ hs) others)

  pub in_place : (fs : List Field) → inserts fs
  in_place [] = refl
  in_place (g ∷ gs) = by_less g gs (is_less g) refl (in_place gs)
