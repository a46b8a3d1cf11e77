-- How a table is created of its fields: each field is prepared, in the order of the lines, and then
-- the table of those present is written.
use Rattle.std.specs.Prelude.{◌≡◌, ℕ, ◌+◌, ◌==◌, List, [], ◌∷◌, ◌++◌, IsTrue}
use Rattle.std.specs.Prelude.{None}
use Rattle.std.specs.Ordering.{int_eq}
use Rattle.planus_write.specs.Finishing.{FinishDoes}
use Rattle.planus_write.specs.Placing.{Outcome, then_does}
use Rattle.planus_write.specs.Preparing.{Answers, IsPrepared}
use Rattle.planus_write.specs.Unions.{WritesUnionVector}
use Rattle.planus_write.specs.declared.offset.Offset.{Offset}
use Rattle.planus_fields.specs.Fields.{AlwaysWritten, LeftOutWhere, PreparesIf}
use Rattle.planus.specs.Accessors.{plain_field_of}
use Rattle.planus.specs.FieldLines.{FieldLine}
use Rattle.planus.specs.FieldLines.FieldLine.{optional, required, plain_if, plain_or, number_or}
use Rattle.planus.specs.FieldLines.FieldLine.{signed_or, union, union_required, unions}
use Rattle.planus.specs.FieldLines.FieldLine.{unions_required}
use Rattle.planus.specs.Holds.{as_signed}
use Rattle.planus.specs.Preparing.{FieldsInTurn, WritesInTurn, next_turn}
use Rattle.planus.specs.TableFields.{field_in, union_value_in, union_tag_in, list_tags_in}
use Rattle.planus.specs.TableFields.{list_values_in}

-- After these fields, and these that are written last, others are prepared; all are returned.
abbrev pub PreparesOthers : Type 1
PreparesOthers = FieldsInTurn → FieldsInTurn → Outcome FieldsInTurn

-- One field is prepared, and then the others.
abbrev pub in_turn : FieldLine → PreparesOthers → PreparesOthers
in_turn (optional kind slot given) others first last =
    next_turn (PreparesIf (λ one. AlwaysWritten (kind.prepares one)) given)
    (λ value. others (first ++ field_in slot kind.as_field value ∷ []) last)
in_turn (required kind slot given) others first last =
    next_turn (AlwaysWritten (kind.prepares given))
    (λ value. others (first ++ field_in slot kind.as_field value ∷ []) last)
in_turn (plain_if shape slot given) others first last =
    next_turn (PreparesIf (λ one. AlwaysWritten (Answers one)) given)
    (λ value. others (first ++ field_in slot (plain_field_of shape) value ∷ []) last)
in_turn (plain_or shape equal slot default given) others first last =
    next_turn (LeftOutWhere (IsTrue (equal given default)) (Answers given))
    (λ value. others (first ++ field_in slot (plain_field_of shape) value ∷ []) last)
in_turn (number_or shape slot default given) others first last =
    next_turn (LeftOutWhere (IsTrue (given == default)) (Answers given))
    (λ value. others (first ++ field_in slot (plain_field_of shape) value ∷ []) last)
in_turn (signed_or shape width slot default given) others first last =
    next_turn
    (LeftOutWhere (IsTrue (int_eq (as_signed width given) default))
    (Answers (as_signed width given)))
    (λ value. others (first ++ field_in slot (plain_field_of shape) value ∷ []) last)
in_turn (union variants slot given) others first last =
    next_turn (PreparesIf (λ one. AlwaysWritten (Answers one)) given)
    (λ value. others (first ++ union_value_in (slot + 1) value ∷ [])
    (last ++ union_tag_in slot value ∷ []))
in_turn (union_required variants slot given) others first last =
    next_turn (AlwaysWritten (Answers given))
    (λ value. others (first ++ union_value_in (slot + 1) value ∷ [])
    (last ++ union_tag_in slot value ∷ []))
in_turn (unions T slot given) others first last =
    next_turn (LeftOutWhere (given.now ≡ []) (WritesUnionVector Answers given.now))
    (λ value. others
    ((first ++ list_tags_in slot value ∷ []) ++ list_values_in (slot + 1) value ∷ []) last)
in_turn (unions_required T slot given) others first last =
    next_turn (AlwaysWritten (WritesUnionVector Answers given.now))
    (λ value. others
    ((first ++ list_tags_in slot value ∷ []) ++ list_values_in (slot + 1) value ∷ []) last)

abbrev pub all_in_turn : List FieldLine → PreparesOthers
all_in_turn [] first last = Answers (first ++ last)
all_in_turn (line ∷ lines) first last = in_turn line (all_in_turn lines) first last

-- The fields are prepared in turn, and the table of those present is written. The first failure
-- ends it.
abbrev pub CreatesTable : {K : Type 0} → List FieldLine → Outcome (Offset K)
CreatesTable lines = WritesInTurn (all_in_turn lines)

-- The table is created and finished as the root of a buffer.
abbrev pub CreatesRoot : Type 0 → List FieldLine → Outcome ℕ
CreatesRoot K lines =
    then_does (CreatesTable {K = K} lines) (λ root. FinishDoes (IsPrepared root) None)
