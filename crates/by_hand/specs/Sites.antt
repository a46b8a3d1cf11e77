-- What a site holds.
use Rattle.std.specs.Prelude.{◌≡◌, ℕ, Bool, List, [], ◌∷◌, Option, Result}
use lib.Ieee.{eq as equal_floats}
use Rattle.planus.specs.read.declared.located.Error.{Error}
use Rattle.planus.specs.read.Enums.{known_or}
use Rattle.planus.specs.read.Shapes.{f32_shape, f64_shape}
use Rattle.planus.specs.write.Contents.{Content}
use Rattle.planus.specs.fields.Contents.{holds_if, unless}
use Rattle.planus.specs.Holds.{holds_plain, holds_plains}
use Rattle.by_hand.specs.Structs.{pos_shape, features_shape}
use Rattle.by_hand.specs.Kinds.{kind_shape}
use Rattle.by_hand.specs.declared.kind.Kind.{Kind}
use Rattle.by_hand.specs.declared.kind.Kind.TheVariants.{Bike}
use Rattle.by_hand.specs.declared.site.SiteFields.{SiteFields}
use Rattle.by_hand.specs.declared.site.TheConstants.{USUAL_DEPTH}

-- slot by slot, given how kinds are compared
abbrev pub site_contents : (Kind → Kind → Bool) → SiteFields → List (ℕ × Option Content)
site_contents equal site =
    (8, unless (equal_floats site.depth USUAL_DEPTH) (holds_plain f64_shape site.depth))
    ∷ (0, holds_plain pos_shape site.home)
    ∷ (1, holds_if (λ track. holds_plains pos_shape track.now) site.track)
    ∷ (4, holds_plain f32_shape site.heat)
    ∷ (5, holds_plains kind_shape site.kinds.now)
    ∷ (9, holds_plains f64_shape site.levels.now)
    ∷ (3, unless (equal site.kind Bike) (holds_plain kind_shape site.kind))
    ∷ (7, holds_plain features_shape site.features) ∷ []

-- with another value for an unknown number
abbrev pub IsKnownOr : {A : Type 0} → A → (Result A Error → Type 0) → Result A Error → Type 0
IsKnownOr {A} other Reads r = (read : Result A Error) × Reads read × (r ≡ known_or other read)
