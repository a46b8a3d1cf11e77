-- The history since the last clear, and how one part more is written.
use Rattle.std.specs.Prelude.{◌≡◌, ℕ, List, [], ◌∷◌, ◌++◌, Option, Some, None, ◌⊎◌}
use Rattle.planus_back.specs.Promises.{Promise}
use Rattle.planus_back.specs.Parts.{Part, Written, Placed, IsTooLarge}
use Rattle.planus_write.specs.Shared.{Contents, CacheSettings, Cached, shared_as, earlier_distance}
use Rattle.planus_write.specs.Shared.{and_cached}

-- The bytes, their constraints, the cached contents, and the parts with their places in order.
pub record History : Type 0 where
  pub written : Written
  pub cached : List Cached
  pub parts : List Part
  pub places : List ℕ

-- nothing was written
abbrev pub no_history : History
no_history = record {
  written = record { bytes = []; promises = [] };
  cached = [];
  parts = [];
  places =
      [];
}

-- One entry of a write: the contents by which it may be shared, and its part, which may depend on
-- the distances of earlier entries and on the constraints so far.
pub record Entry : Type 0 where
  pub contents : Option Contents
  pub part : List ℕ → List Promise → Part

-- an entry that isn't shared, with a part that depends on nothing
abbrev pub unshared_entry : Part → Entry
unshared_entry part = record { contents = None; part = λ got promises. part }

abbrev pub part_after : Entry → List ℕ → History → Part
part_after entry got history = entry.part got history.written.promises

-- The part is placed with the least padding, and added to the history.
pub record Adds (part : Part) (shared : Option Contents) (before : History) (distance : ℕ)
    (after : History) : Type 0 where
  pub placed : Placed part before.written after.written
  pub at : distance ≡ placed.place
  pub cached : after.cached ≡ and_cached shared distance before.cached
  pub parts : after.parts ≡ before.parts ++ part ∷ []
  pub places : after.places ≡ before.places ++ distance ∷ []

-- Equal contents were found, and nothing is written; otherwise the part is added.
abbrev pub PutsAfter : Option ℕ → Part → Option Contents → History → ℕ → History → Type 0
PutsAfter (Some earlier) part shared before distance after = (distance ≡ earlier) × (after ≡ before)
PutsAfter None part shared before distance after = Adds part shared before distance after

abbrev pub found_before : CacheSettings → Entry → History → Option ℕ
found_before settings entry history = earlier_distance history.cached
    (shared_as settings entry.contents)

-- One entry is written, after those that got these distances, and gets this distance.
abbrev pub Puts : CacheSettings → Entry → List ℕ → History → ℕ → History → Type 0
Puts settings entry got before distance after =
    PutsAfter (found_before settings entry before) (part_after entry got before)
    (shared_as settings entry.contents)
    before distance after

-- one after another, with these distances
abbrev pub PutsAll : CacheSettings → List Entry → List ℕ → History → List ℕ → History → Type 0
PutsAll settings [] got before all after = (all ≡ got) × (after ≡ before)
PutsAll settings (entry ∷ entries) got before all after =
    (distance : ℕ) × (between : History) × Puts settings entry got before distance between
    × PutsAll settings entries (got ++ distance ∷ []) between all after

-- the entry isn't found, and its part is too large
pub record PutsTooLarge (settings : CacheSettings) (entry : Entry) (got : List ℕ)
    (before : History) : Type 0 where
  pub is_new : found_before settings entry before ≡ None
  pub too_large : IsTooLarge (part_after entry got before) before.written

abbrev pub ComesToTooLarge : CacheSettings → List Entry → List ℕ → History → Type 0
ComesToTooLarge settings [] got before = ⊥
ComesToTooLarge settings (entry ∷ entries) got before =
    PutsTooLarge settings entry got before
    ⊎ ((distance : ℕ) × (between : History) × Puts settings entry got before distance between
    × ComesToTooLarge settings entries (got ++ distance ∷ []) between)
