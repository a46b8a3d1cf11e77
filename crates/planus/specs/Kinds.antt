-- The kinds of what steps write.
use Rattle.std.specs.Prelude.{ℕ, Option, Some, None}
use Rattle.planus_write.specs.Parts.{Named}
use Rattle.planus.specs.Steps.{Step, unions, finish, clear}
use Rattle.planus.specs.declared.replaying.faults.Why.{Why}
use Rattle.planus.specs.declared.replaying.faults.Why.TheVariants.{NoSuchStep, WrongKind}

-- a union vector has two distances, of its tags and of its references
pub data StepKind : Type 0 where
  a_value : StepKind
  a_union_vector : StepKind

abbrev pub kind_of : Step → Option StepKind
kind_of (unions items) = Some a_union_vector
kind_of (finish front root identifier) = None
kind_of clear = None
kind_of _ = Some a_value

abbrev pub kind_by_tags : Option ℕ → StepKind
kind_by_tags None = a_value
kind_by_tags (Some tags) = a_union_vector

abbrev pub kind_named : Named → StepKind
kind_named named = kind_by_tags named.tags

-- the error of naming a step as one of this kind
abbrev pub naming_fault : StepKind → Option (Option StepKind) → Option Why
naming_fault kind None = Some NoSuchStep
naming_fault kind (Some None) = Some WrongKind
naming_fault a_value (Some (Some a_value)) = None
naming_fault a_value (Some (Some a_union_vector)) = Some WrongKind
naming_fault a_union_vector (Some (Some a_value)) = Some WrongKind
naming_fault a_union_vector (Some (Some a_union_vector)) = None
