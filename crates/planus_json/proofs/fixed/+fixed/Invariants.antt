use Rattle.std.proofs.Common.{◌+◌, ◌-◌, ◌*◌, drop}
use Rattle.planus_read.specs.Slices.{slice_bytes}
use Rattle.planus_json.specs.Json.{items_tokens, members_tokens}
use Rattle.planus_json.specs.Trees.{structs, struct_members, values_trees}
use Rattle.planus_json.proofs.Printing.{Goes}
use Rattle.planus_json.proofs.fixed.+fixed.Given as goal

-- The depth falls from a struct to those in it; the summands order the calls in between.
abbrev pub decreases-print_struct : goal.decreases-print_struct
decreases-print_struct l = 9 * l.left

abbrev pub decreases-print_fixed : goal.decreases-print_fixed
decreases-print_fixed l = 9 * l.left + 1

abbrev pub decreases-print_fixed_item : goal.decreases-print_fixed_item
decreases-print_fixed_item l = 9 * l.left + 2

abbrev pub decreases-print_fixed_items : goal.decreases-print_fixed_items
decreases-print_fixed_items l = 9 * l.left + 3

abbrev pub decreases-print_fixed_list : goal.decreases-print_fixed_list
decreases-print_fixed_list l = 9 * l.left + 4

abbrev pub decreases-print_struct_field : goal.decreases-print_struct_field
decreases-print_struct_field l = 9 * l.left + 5

abbrev pub decreases-print_struct_member : goal.decreases-print_struct_member
decreases-print_struct_member l = 9 * l.left + 6

abbrev pub decreases-print_struct_fields : goal.decreases-print_struct_fields
decreases-print_struct_fields l = 9 * l.left + 7

abbrev pub decreases-print_struct_shape : goal.decreases-print_struct_shape
decreases-print_struct_shape l = 9 * l.left + 8

abbrev pub invariant-print_fixed_items-loop-i : goal.invariant-print_fixed_items-loop-i
invariant-print_fixed_items-loop-i l =
    Goes l.fn.out (items_tokens l.line (values_trees l.schema (structs l.schema l.left) l.items.value (slice_bytes l.items.slice) l.items.first l.path l.items.count 0))
    (items_tokens l.line (values_trees l.schema (structs l.schema l.left) l.items.value (slice_bytes l.items.slice) l.items.first l.path (l.items.count - l.i) l.i)) l.out

abbrev pub invariant-print_struct_fields-loop-field : goal.invariant-print_struct_fields-loop-field
invariant-print_struct_fields-loop-field l =
    Goes l.fn.out (members_tokens l.line (struct_members l.schema (structs l.schema l.left) l.fields (slice_bytes l.slice) l.path))
    (members_tokens l.line (struct_members l.schema (structs l.schema l.left) (drop l.field-index l.fields) (slice_bytes l.slice) l.path)) l.out
