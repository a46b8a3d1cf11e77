-- What the steps since a clear wrote, by distances.
use Rattle.std.specs.Prelude.{◌≡◌, ℕ, ◌+◌, ◌-◌, ◌≤◌, nat_lt, List, [], ◌∷◌, slice_get, Option, Some}
use Rattle.std.specs.Prelude.{None, if◌then◌else◌, Result, Ok, Err}
use Rattle.std.specs.Option.{option_map}
use Rattle.planus_write.specs.Parts.{Named}
use Rattle.planus_write.specs.Kept.{TagsReached}
use Rattle.planus_write.specs.declared.offset.Offset.{Offset}
use Rattle.planus_write.specs.declared.union_vector_offset.UnionVectorOffset.{UnionVectorOffset}
use Rattle.planus.specs.Kinds.{StepKind, kind_named, naming_fault}
use Rattle.planus.specs.Runs.{Listed, named_at}
use Rattle.planus.specs.declared.replaying.faults.Why.{Why}
use Rattle.planus.specs.declared.replaying.written.Written.{Written}
use Rattle.planus.specs.declared.replaying.written.Written.TheVariants.{Value, Unions}

abbrev pub offset_named : {T : Type 0} → Offset T → Named
offset_named offset = record { distance = offset.distance; tags = None }

abbrev pub vector_named : {T : Type 0} → UnionVectorOffset T → Named
vector_named vector =
    record { distance = vector.values.distance; tags = Some vector.tags.distance }

abbrev pub written_named : Written → Named
written_named (Value offset) = offset_named offset
written_named (Unions vector) = vector_named vector

abbrev pub name_of : Option Written → Option Named
name_of written = option_map written_named written

abbrev pub listed_from : ℕ → List (Option Named) → List Listed
listed_from n [] = []
listed_from n (None ∷ rest) = listed_from (n + 1) rest
listed_from n (Some named ∷ rest) =
    record { step = n; named = named } ∷ listed_from (n + 1) rest

-- `first` is the number of the first step after the last clear
abbrev pub written_at : ℕ → List (Option Named) → ℕ → Option (Option Named)
written_at first since step = if nat_lt step first then None else slice_get since (step - first)

-- the error of naming a step as one of this kind
abbrev pub fault_since : ℕ → List (Option Named) → StepKind → ℕ → Option Why
fault_since first since kind step =
    naming_fault kind (option_map (option_map kind_named) (written_at first since step))

-- the value is there without an error, or this is the error
abbrev pub Finds : {X Y A : Type 0} → (X → Option Y) → (X → Option Why) → (A → Y) → X
    → Result A Why → Type 0
Finds found fault given x (Ok answer) = (found x ≡ Some (given answer)) × (fault x ≡ None)
Finds found fault given x (Err why) = fault x ≡ Some why

-- what an earlier step wrote, if it is of this kind, or the error of naming it
abbrev pub FindsNamed : {A : Type 0} → StepKind → (A → Named) → ℕ → List (Option Named) → ℕ
    → Result A Why → Type 0
FindsNamed kind name first since step answer =
    Finds (named_at (listed_from first since)) (fault_since first since kind) name step answer

-- what is named is within n bytes
pub record IsReached (bytes : ℕ) (named : Named) : Type 0 where
  pub distance : named.distance ≤ bytes
  pub tags : TagsReached bytes named.tags
