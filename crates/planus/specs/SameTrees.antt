-- What two runs of the same steps have in common.
use Rattle.std.specs.Prelude.{◌≡◌, ℕ, List, [], ◌∷◌, Option, Some, ⊤, slice_get}
use Rattle.planus_read.specs.Values.{Value, Field, text, byte_list, plain_list, reference_list}
use Rattle.planus_read.specs.Values.{union_vector, table, apart, plain, reference, tags, values}
use Rattle.planus_read.specs.Stands.{ReferenceStands}
use Rattle.planus_write.specs.Shared.{CacheSettings}
use Rattle.planus_write.specs.Parts.{Named}
use Rattle.planus.specs.Steps.{Step, Front, finish}
use Rattle.planus.specs.FinishHolds.{root_at}
use Rattle.planus.specs.Runs.{Finish, Listed, Runs, value_of, distance_at, value_distance}
use Rattle.planus.specs.Runs.{tags_distance, references_distance}

-- two lists, related item by item
abbrev pub AllPairs : {X Y : Type 0} → (X → Y → Type 0) → List X → List Y → Type 0
AllPairs R [] [] = ⊤
AllPairs R (x ∷ xs) (y ∷ ys) = R x y × AllPairs R xs ys
AllPairs R [] (y ∷ ys) = ⊥
AllPairs R (x ∷ xs) [] = ⊥

-- distances of one step in both lists
abbrev pub LeadToOneStep : (Named → Option ℕ) → List Listed → List Listed → ℕ → ℕ → Type 0
LeadToOneStep which ones others d e = (step : ℕ) × (distance_at which ones step ≡ Some d)
    × (distance_at which others step ≡ Some e)

-- fields equal but for distances, which lead to the same steps
abbrev pub SameField : List Listed → List Listed → Field → Field → Type 0
SameField ones others (plain item) (plain other) = item ≡ other
SameField ones others (reference d) (reference e) =
    LeadToOneStep value_distance ones others d e
SameField ones others (tags d) (tags e) = LeadToOneStep tags_distance ones others d e
SameField ones others (values d) (values e) = LeadToOneStep references_distance ones others d e
SameField ones others _ _ = ⊥

abbrev pub SameEntry : List Listed → List Listed → ℕ × Field → ℕ × Field → Type 0
SameEntry ones others entry other = (entry.0 ≡ other.0) × SameField ones others entry.1 other.1

abbrev pub SameUnion : List Listed → List Listed → ℕ × ℕ → ℕ × ℕ → Type 0
SameUnion ones others union other = (union.0 ≡ other.0)
    × LeadToOneStep value_distance ones others union.1 other.1

-- values equal but for distances, which lead to the same steps
abbrev pub SameValue : List Listed → List Listed → Value → Value → Type 0
SameValue ones others (text content) (text other) = content ≡ other
SameValue ones others (byte_list content) (byte_list other) = content ≡ other
SameValue ones others (plain_list size alignment items) (plain_list s a other) =
    (size ≡ s) × (alignment ≡ a) × (items ≡ other)
SameValue ones others (reference_list ds) (reference_list es) =
    AllPairs (LeadToOneStep value_distance ones others) ds es
SameValue ones others (union_vector items) (union_vector other) =
    AllPairs (SameUnion ones others) items other
SameValue ones others (table entries) (table other) =
    AllPairs (SameEntry ones others) entries other
SameValue ones others (apart item) (apart other) = item ≡ other
SameValue ones others _ _ = ⊥

pub record SamePlace (steps : List Step) (ones others : List Listed) (one other : Listed)
    : Type 0 where
  pub same_step : one.step ≡ other.step
  pub step : Step
  pub there : slice_get steps one.step ≡ Some step
  pub value : Value
  pub is_value : value_of ones step ≡ Some value
  pub other_value : Value
  pub is_other : value_of others step ≡ Some other_value
  pub same : SameValue ones others value other_value

-- finishes with one step as their root, and the same values in order
pub record SameTrees (steps : List Step) (one other : Finish) : Type 0 where
  pub number : ℕ
  pub front : Front
  pub root : ℕ
  pub identifier : Option (List ℕ)
  pub step : slice_get steps number ≡ Some (finish front root identifier)
  pub distance : ℕ
  pub root_is : distance_at value_distance one.places root ≡ Some distance
  pub leads : ReferenceStands one.bytes (root_at front) distance
  pub other_distance : ℕ
  pub other_root_is : distance_at value_distance other.places root ≡ Some other_distance
  pub other_leads : ReferenceStands other.bytes (root_at front) other_distance
  pub places : AllPairs (SamePlace steps one.places other.places) one.places other.places

-- Two runs of the same steps have the same trees, whatever the cache settings.
abbrev pub TreesAreTheSame : Type 0
TreesAreTheSame =
    (one other : CacheSettings) (steps : List Step) (finished others : List Finish)
    → Runs one steps finished → Runs other steps others
    → AllPairs (SameTrees steps) finished others
