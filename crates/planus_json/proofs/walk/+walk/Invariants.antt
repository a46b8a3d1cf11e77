use Rattle.std.proofs.Common.{◌+◌, ◌-◌, ◌*◌, drop}
use Rattle.planus_read.specs.Slices.{slice_bytes}
use Rattle.planus_dump.specs.ReadingViews.{unions_seen, table_seen}
use Rattle.planus_json.specs.Json.{items_tokens, members_tokens}
use Rattle.planus_json.specs.Trees.{tree, fields_members, items_trees, unions_trees}
use Rattle.planus_json.proofs.Printing.{Goes}
use Rattle.planus_json.proofs.walk.+walk.Given as goal

-- The depth falls from a table to those of its fields; the summands order the calls in between.
abbrev pub decreases-print_table : goal.decreases-print_table
decreases-print_table l = 16 * l.left

abbrev pub decreases-print_member : goal.decreases-print_member
decreases-print_member l = 16 * l.left + 1

abbrev pub decreases-print_union : goal.decreases-print_union
decreases-print_union l = 16 * l.left + 2

abbrev pub decreases-print_unions_item : goal.decreases-print_unions_item
decreases-print_unions_item l = 16 * l.left + 3

abbrev pub decreases-print_unions_items : goal.decreases-print_unions_items
decreases-print_unions_items l = 16 * l.left + 4

abbrev pub decreases-print_unions : goal.decreases-print_unions
decreases-print_unions l = 16 * l.left + 5

abbrev pub decreases-print_unions_value : goal.decreases-print_unions_value
decreases-print_unions_value l = 16 * l.left + 6

abbrev pub decreases-print_unions_members : goal.decreases-print_unions_members
decreases-print_unions_members l = 16 * l.left + 7

abbrev pub decreases-print_union_value : goal.decreases-print_union_value
decreases-print_union_value l = 16 * l.left + 3

abbrev pub decreases-print_union_members : goal.decreases-print_union_members
decreases-print_union_members l = 16 * l.left + 4

abbrev pub decreases-print_item : goal.decreases-print_item
decreases-print_item l = 16 * l.left + 1

abbrev pub decreases-print_list_item : goal.decreases-print_list_item
decreases-print_list_item l = 16 * l.left + 2

abbrev pub decreases-print_items : goal.decreases-print_items
decreases-print_items l = 16 * l.left + 3

abbrev pub decreases-print_list : goal.decreases-print_list
decreases-print_list l = 16 * l.left + 4

abbrev pub decreases-print_nested : goal.decreases-print_nested
decreases-print_nested l = 16 * l.left + 1

abbrev pub decreases-print_place : goal.decreases-print_place
decreases-print_place l = 16 * l.left + 5

abbrev pub decreases-print_present : goal.decreases-print_present
decreases-print_present l = 16 * l.left + 6

abbrev pub decreases-print_kind : goal.decreases-print_kind
decreases-print_kind l = 16 * l.left + 8

abbrev pub decreases-print_field : goal.decreases-print_field
decreases-print_field l = 16 * l.left + 9

abbrev pub decreases-print_fields : goal.decreases-print_fields
decreases-print_fields l = 16 * l.left + 10

abbrev pub decreases-print_shape : goal.decreases-print_shape
decreases-print_shape l = 16 * l.left + 11

abbrev pub invariant-print_fields-loop-field : goal.invariant-print_fields-loop-field
invariant-print_fields-loop-field l =
    Goes l.fn.out (members_tokens l.line (fields_members (tree l.schema l.left) l.schema (table_seen l.table) l.path l.fields))
    (members_tokens l.line (fields_members (tree l.schema l.left) l.schema (table_seen l.table) l.path (drop l.field-index l.fields))) l.out

abbrev pub invariant-print_items-loop-i : goal.invariant-print_items-loop-i
invariant-print_items-loop-i l =
    Goes l.fn.out (items_tokens l.line (items_trees (tree l.schema l.left) l.item (slice_bytes l.slice) l.path l.count 0))
    (items_tokens l.line (items_trees (tree l.schema l.left) l.item (slice_bytes l.slice) l.path (l.count - l.i) l.i)) l.out

abbrev pub invariant-print_unions_items-loop-i : goal.invariant-print_unions_items-loop-i
invariant-print_unions_items-loop-i l =
    Goes l.fn.out (items_tokens l.line (unions_trees (tree l.schema l.left) l.schema l.index (unions_seen l.unions) l.path (unions_seen l.unions).count 0))
    (items_tokens l.line (unions_trees (tree l.schema l.left) l.schema l.index (unions_seen l.unions) l.path ((unions_seen l.unions).count - l.i) l.i)) l.out
