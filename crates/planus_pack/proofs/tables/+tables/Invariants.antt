use Rattle.std.proofs.Common.{◌≡◌, ◌*◌, ◌+◌, [], length, map}
use Rattle.planus.specs.Steps.{bare_field, bare_step}
use Rattle.planus_json_syntax.specs.Values.{json_view, member_view}
use Rattle.planus_pack.specs.Parts.{object_view}
use Rattle.planus_pack.specs.Rules.{rules_of}
use Rattle.planus_pack.specs.Tables as spec
use Rattle.planus_pack.proofs.tables.+tables.Given as goal

abbrev pub decreases-with_table : goal.decreases-with_table
decreases-with_table l = 32 * l.depth

abbrev pub decreases-refer : goal.decreases-refer
decreases-refer l = 32 * l.depth + 1

abbrev pub decreases-refer_each : goal.decreases-refer_each
decreases-refer_each l = 32 * l.depth + 2

abbrev pub decreases-vector : goal.decreases-vector
decreases-vector l = 32 * l.depth + 3

abbrev pub decreases-content : goal.decreases-content
decreases-content l = 32 * l.depth + 4

abbrev pub decreases-union_value : goal.decreases-union_value
decreases-union_value l = 32 * l.depth + 5

abbrev pub decreases-union_item : goal.decreases-union_item
decreases-union_item l = 32 * l.depth + 6

abbrev pub decreases-union_items : goal.decreases-union_items
decreases-union_items l = 32 * l.depth + 7

abbrev pub decreases-union_vector : goal.decreases-union_vector
decreases-union_vector l = 32 * l.depth + 8

abbrev pub decreases-field_value : goal.decreases-field_value
decreases-field_value l = 32 * l.depth + 9

abbrev pub decreases-unions_member : goal.decreases-unions_member
decreases-unions_member l = 32 * l.depth + 10

abbrev pub decreases-given_value : goal.decreases-given_value
decreases-given_value l = 32 * l.depth + 11

abbrev pub decreases-with_value : goal.decreases-with_value
decreases-with_value l = 32 * l.depth + 12

abbrev pub decreases-with_member : goal.decreases-with_member
decreases-with_member l = 32 * l.depth + 13

abbrev pub decreases-with_members : goal.decreases-with_members
decreases-with_members l = 32 * l.depth + 14

abbrev pub decreases-table_of : goal.decreases-table_of
decreases-table_of l = 32 * l.depth + 15

abbrev pub decreases-table_in : goal.decreases-table_in
decreases-table_in l = 32 * l.depth + 16

abbrev pub invariant-refer_each-items : goal.invariant-refer_each-items
invariant-refer_each-items l =
    spec.refer_each (rules_of l.rules) (spec.with_table (rules_of l.rules) l.depth) l.base
    (map bare_step l.steps.items) l.found.items (map json_view l.rest)
    ≡ spec.refer_each (rules_of l.rules) (spec.with_table (rules_of l.rules) l.depth) l.base
    (map bare_step l.fn.steps.items) [] (map json_view l.items)

abbrev pub decreases-refer_each-items : goal.decreases-refer_each-items
decreases-refer_each-items l = length l.rest

abbrev pub invariant-union_items-types : goal.invariant-union_items-types
invariant-union_items-types l =
    spec.union_items (rules_of l.rules) (spec.with_table (rules_of l.rules) l.depth) l.one
    (map bare_step l.steps.items) l.found.items (map json_view l.named) (map json_view l.rest)
    ≡ spec.union_items (rules_of l.rules) (spec.with_table (rules_of l.rules) l.depth) l.one
    (map bare_step l.fn.steps.items) [] (map json_view l.types) (map json_view l.items)

abbrev pub decreases-union_items-types : goal.decreases-union_items-types
decreases-union_items-types l = length l.named

abbrev pub invariant-with_members-members : goal.invariant-with_members-members
invariant-with_members-members l =
    spec.with_members (rules_of l.rules) (spec.with_table (rules_of l.rules) l.depth) (object_view l.object)
    l.table (map bare_step l.steps.items) (map bare_field l.fields.items) (map member_view l.rest)
    ≡ spec.with_members (rules_of l.rules) (spec.with_table (rules_of l.rules) l.depth) (object_view l.object)
    l.table (map bare_step l.fn.steps.items) [] (object_view l.object).members

abbrev pub decreases-with_members-members : goal.decreases-with_members-members
decreases-with_members-members l = length l.rest
