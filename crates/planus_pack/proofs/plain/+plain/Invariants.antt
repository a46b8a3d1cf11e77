use Rattle.std.proofs.Common.{◌≡◌, ◌*◌, ◌+◌, length, map}
use Rattle.planus_json_syntax.specs.Values.{json_view, member_view}
use Rattle.planus_pack.specs.Plain as spec
use Rattle.planus_pack.proofs.plain.+plain.Given as goal

abbrev pub decreases-with_plain : goal.decreases-with_plain
decreases-with_plain l = 16 * l.depth + 1

abbrev pub decreases-with_each : goal.decreases-with_each
decreases-with_each l = 16 * l.depth + 2

abbrev pub decreases-with_array : goal.decreases-with_array
decreases-with_array l = 16 * l.depth + 3

abbrev pub decreases-with_value : goal.decreases-with_value
decreases-with_value l = 16 * l.depth + 4

abbrev pub decreases-with_field : goal.decreases-with_field
decreases-with_field l = 16 * l.depth + 5

abbrev pub decreases-with_fields : goal.decreases-with_fields
decreases-with_fields l = 16 * l.depth + 6

abbrev pub decreases-with_struct_of : goal.decreases-with_struct_of
decreases-with_struct_of l = 16 * l.depth + 7

abbrev pub decreases-with_struct_at : goal.decreases-with_struct_at
decreases-with_struct_at l = 16 * l.depth + 8

abbrev pub decreases-with_struct : goal.decreases-with_struct
decreases-with_struct l = 16 * l.depth

abbrev pub invariant-with_each-items : goal.invariant-with_each-items
invariant-with_each-items l =
    spec.with_each (spec.with_plain l.declared l.depth l.base) l.bytes.items (map json_view l.rest)
    ≡ spec.with_each (spec.with_plain l.declared l.depth l.base) l.fn.bytes.items
    (map json_view l.items)

abbrev pub decreases-with_each-items : goal.decreases-with_each-items
decreases-with_each-items l = length l.rest

abbrev pub invariant-with_fields-fields : goal.invariant-with_fields-fields
invariant-with_fields-fields l =
    spec.with_fields l.declared (spec.with_struct l.declared l.depth) l.at
    (map member_view l.members) l.start l.rest l.bytes.items
    ≡ spec.with_fields l.declared (spec.with_struct l.declared l.depth) l.at
    (map member_view l.members) l.start l.fields l.fn.bytes.items

abbrev pub decreases-with_fields-fields : goal.decreases-with_fields-fields
decreases-with_fields-fields l = length l.rest
