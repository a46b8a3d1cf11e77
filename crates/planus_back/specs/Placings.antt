-- Every way to give parts places, in their order from the end.
use Rattle.std.specs.Prelude.{◌≡◌, ℕ, ◌+◌, ◌≤◌, List, [], ◌∷◌, ⊤}
use Rattle.planus_back.specs.Promises.{Promise, CanBeKept}
use Rattle.planus_back.specs.Padding.{promise_of, IsLeastPadding}
use Rattle.planus_back.specs.Parts.{Part}

-- each part before the previous one, and the first before n bytes
abbrev pub LieInOrder : ℕ → List Part → List ℕ → Type 0
LieInOrder length [] [] = ⊤
LieInOrder length (part ∷ parts) (place ∷ places) = (length + part.size ≤ place)
    × LieInOrder place parts places
LieInOrder length [] (place ∷ places) = ⊥
LieInOrder length (part ∷ parts) [] = ⊥

abbrev pub promises_at : List Part → List ℕ → List Promise
promises_at [] places = []
promises_at (part ∷ parts) [] = []
promises_at (part ∷ parts) (place ∷ places) =
    promise_of place part.alignment ∷ promises_at parts places

-- places in order, for which some length keeps all constraints
pub record IsPlacing (parts : List Part) (places : List ℕ) : Type 0 where
  pub in_order : LieInOrder 0 parts places
  pub kept : CanBeKept (promises_at parts places)

-- the places that the parts get one by one, each by the least padding
abbrev pub PlacedInTurn : ℕ → List Promise → List Part → List ℕ → Type 0
PlacedInTurn length promises [] [] = ⊤
PlacedInTurn length promises (part ∷ parts) (place ∷ places) =
    ((padding : ℕ) × (place ≡ length + padding + part.size)
    × IsLeastPadding length promises part.size part.alignment padding)
    × PlacedInTurn place (promise_of place part.alignment ∷ promises) parts places
PlacedInTurn length promises [] (place ∷ places) = ⊥
PlacedInTurn length promises (part ∷ parts) [] = ⊥

-- each place is at most the other list's
abbrev pub NoneIsGreater : List ℕ → List ℕ → Type 0
NoneIsGreater [] [] = ⊤
NoneIsGreater (x ∷ xs) (y ∷ ys) = (x ≤ y) × NoneIsGreater xs ys
NoneIsGreater [] (y ∷ ys) = ⊥
NoneIsGreater (x ∷ xs) [] = ⊥
