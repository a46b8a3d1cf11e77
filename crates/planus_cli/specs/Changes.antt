-- The messages of breaks.
use Rattle.std.specs.Prelude.{ℕ, Bool, true, false, List, [], ◌++◌, codes}
use Rattle.planus_conform.specs.declared.breaks.Change.{Change}
use Rattle.planus_conform.specs.declared.breaks.Change.TheVariants as change
use Rattle.planus_conform.specs.declared.breaks.Place.{Place}
use Rattle.planus_conform.specs.declared.breaks.Place.TheVariants as place
use Rattle.planus_cli.specs.declared.changes.Saying.{Saying}

-- of the second place, in the old schema
abbrev pub before_text : List ℕ
before_text = codes "the old schema has this"

-- What is said of a change: `note: ` if it is no break; its word; whose code reads data of the other
-- schema otherwise; what that means, and what to do instead.
pub record SayingV : Type 0 where
  pub label : List ℕ
  pub word : List ℕ
  pub hurt : List ℕ
  pub effect : List ℕ
  pub advice : List ℕ

abbrev pub saying_view : Saying → SayingV
saying_view s = record {
  label = s.label.now;
  word = s.word.now;
  hurt = s.hurt.now;
  effect = s.effect.now;
  advice = s.advice.now;
}

abbrev pub hurts : List ℕ → List ℕ → List ℕ → List ℕ → SayingV
hurts who word effect advice = record {
  label = [];
  word = word;
  hurt = who;
  effect = effect;
  advice = advice;
}

-- a change that breaks each way
abbrev pub hurts_both : List ℕ → List ℕ → List ℕ → SayingV
hurts_both = hurts (codes "both")

-- a change that breaks new code that reads old data
abbrev pub hurts_new : List ℕ → List ℕ → List ℕ → SayingV
hurts_new = hurts (codes "new")

-- a change that breaks old code that reads new data
abbrev pub hurts_old : List ℕ → List ℕ → List ℕ → SayingV
hurts_old = hurts (codes "old")

-- a change of which a user's code alone knows
abbrev pub notes : List ℕ → List ℕ → List ℕ → SayingV
notes word effect advice = record {
  label = codes "note: ";
  word = word;
  hurt = codes "none";
  effect = effect;
  advice = advice;
}

-- a part that has another slot, distance, number or tag
abbrev pub moved : Place → SayingV
moved (place.Field n k) = hurts_both (codes "moved")
    (codes "another slot: code of either schema reads another field")
    (codes "add fields last, or give all an `id`")
moved (place.Part n k) = hurts_both (codes "moved")
    (codes "another distance: code of either schema reads other bytes")
    (codes "declare another struct, and add a field of it")
moved (place.Value n k) = hurts_both (codes "moved")
    (codes "another number: code of either schema reads another value")
    (codes "write the numbers out")
moved p = hurts_both (codes "moved")
    (codes "another tag: code of either schema reads another member")
    (codes "write the tags out")

-- a field that is gone
abbrev pub removed : Place → SayingV
removed (place.Part n k) = hurts_both (codes "field_removed")
    (codes "nothing at its distance: new code has lost the field")
    (codes "declare another struct, and add a field of it")
removed p = hurts_both (codes "field_removed")
    (codes "removed: new code has lost the field")
    (codes "keep it, and mark it `deprecated`")

-- a field of another type
abbrev pub retyped : Place → SayingV
retyped (place.Part n k) = hurts_both (codes "type_changed")
    (codes "another type: code of either schema misreads it")
    (codes "declare another struct, and add a field of it")
retyped p = hurts_both (codes "type_changed")
    (codes "another type: code of either schema misreads it")
    (codes "add a new field, and deprecate this one")

-- `required` in the new schema alone, or in the old one
abbrev pub required : Bool → SayingV
required true = hurts_new (codes "required_changed")
    (codes "now `required`: new code fails where it is absent")
    (codes "leave it optional, and test for it in your code")
required false = hurts_old (codes "required_changed")
    (codes "no longer `required`: old code fails where it is absent")
    (codes "update readers first")

-- what is said of a change at a place; whether the new field is required
abbrev pub saying_of : Change → Place → Bool → SayingV
saying_of change.Removed p r = hurts_both (codes "removed")
    (codes "the new schema has nothing of this name")
    (codes "keep it, or name what it is now by --rename")
saying_of change.OtherKind p r = hurts_both (codes "other_kind")
    (codes "another kind of declaration: code of either schema misreads it")
    (codes "give the new one another name")
saying_of change.FieldRemoved p r = removed p
saying_of change.Moved p r = moved p
saying_of change.TypeChanged p r = retyped p
saying_of change.RequiredChanged p r = required r
saying_of change.RequiredDeprecated p r = hurts_old (codes "required_deprecated")
    (codes "deprecated, but old code fails where it is absent")
    (codes "make it optional first, and wait for old readers")
saying_of change.DefaultChanged p r = hurts_both (codes "default_changed")
    (codes "another default: code of either schema reads another value where the field is absent")
    (codes "add a new field, and deprecate this one")
saying_of change.NestedChanged p r = hurts_both (codes "nested_changed")
    (codes "a buffer of another table: code of either schema misreads it")
    (codes "add a new field, and deprecate this one")
saying_of change.SizeChanged p r = hurts_both (codes "size_changed")
    (codes "another size: code of either schema misreads it")
    (codes "declare another struct, and add a field of it")
saying_of change.NumberTypeChanged p r = hurts_both (codes "number_type_changed")
    (codes "another integer type: code of either schema misreads it")
    (codes "declare another enum, and add a field of it")
saying_of change.FlagsChanged p r = hurts_both (codes "flags_changed")
    (codes "`bit_flags` in one schema alone: its code takes numbers that the other's doesn't")
    (codes "declare another enum, and add a field of it")
saying_of change.ValueRemoved p r = hurts_new (codes "value_removed")
    (codes "removed: new code fails at it in old data")
    (codes "keep it")
saying_of change.ValueAdded p r = hurts_old (codes "value_added")
    (codes "its number is new: old code fails at it in new data")
    (codes "update readers first")
saying_of change.MemberRemoved p r = hurts_new (codes "member_removed")
    (codes "removed: new code fails at it in old data")
    (codes "keep it")
saying_of change.MemberChanged p r = hurts_both (codes "member_changed")
    (codes "another type has its tag: code of either schema misreads it")
    (codes "write the tags out")
saying_of change.MemberAdded p r = hurts_old (codes "member_added")
    (codes "its tag is new: old code fails at it in new data")
    (codes "update readers first")
saying_of change.RootChanged p r = hurts_both (codes "root_changed")
    (codes "another root: code of either schema misreads a buffer of the other")
    (codes "keep the `root_type`")
saying_of change.IdentifierRemoved p r = hurts_old (codes "identifier_removed")
    (codes "no identifier any more: old code takes no new buffer for its own")
    (codes "keep it")
saying_of change.IdentifierChanged p r = hurts_both (codes "identifier_changed")
    (codes "another identifier: code of either schema takes no buffer of the other for its own")
    (codes "keep it")
saying_of change.IdentifierAdded p r = hurts_new (codes "identifier_added")
    (codes "a new identifier: new code takes no old buffer for its own")
    (codes "leave it out")
saying_of change.Renamed p r = notes (codes "renamed")
    (codes "another name: code of either schema reads the same")
    (codes "change it in your own code")
saying_of change.DefaultRespelled p r = notes (codes "default_respelled")
    (codes "its default is written otherwise: code of either schema reads the same")
    (codes "no code has to change")

-- the message of a change of what has this name
abbrev pub message_of : SayingV → List ℕ → List ℕ
message_of s name = s.label
    ++ (codes "`" ++ (name ++ (codes "`: " ++ (s.effect ++ (codes "; " ++ s.advice)))))
