use Rattle.std.proofs.Common.{◌+◌, ◌-◌, ◌*◌, drop, Some}
use Rattle.planus_read.specs.Slices.{slice_bytes}
use Rattle.planus_read.specs.Places.{place_bytes, place_offset}
use Rattle.planus_dump.specs.Events.{structs, struct_events, struct_fields_events, values_events}
use Rattle.planus_dump.proofs.Fed.{Goes}
use Rattle.planus_dump.proofs.fixed.+fixed.Given as goal

-- The depth falls from a struct to those in it; the summands order the calls in between.
abbrev pub decreases-dump_struct : goal.decreases-dump_struct
decreases-dump_struct g l = 5 * l.left

abbrev pub decreases-dump_fixed : goal.decreases-dump_fixed
decreases-dump_fixed g l = 5 * l.left + 1

abbrev pub decreases-dump_fixed_items : goal.decreases-dump_fixed_items
decreases-dump_fixed_items g l = 5 * l.left + 2

abbrev pub decreases-dump_struct_field : goal.decreases-dump_struct_field
decreases-dump_struct_field g l = 5 * l.left + 3

abbrev pub decreases-dump_struct_shape : goal.decreases-dump_struct_shape
decreases-dump_struct_shape g l = 5 * l.left + 4

abbrev pub invariant-dump_fixed_items-loop-i : goal.invariant-dump_fixed_items-loop-i
invariant-dump_fixed_items-loop-i g l =
    Goes g.L.Lines.takes g.L.Lines.breaks l.fn.out (values_events l.schema (structs l.schema l.left) l.items.value (slice_bytes l.items.slice) l.items.first l.path l.items.count 0)
    (values_events l.schema (structs l.schema l.left) l.items.value (slice_bytes l.items.slice) l.items.first l.path (l.items.count - l.i-counter) l.i-counter) l.out

abbrev pub invariant-dump_struct_shape-loop-field : goal.invariant-dump_struct_shape-loop-field
invariant-dump_struct_shape-loop-field g l =
    Goes g.L.Lines.takes g.L.Lines.breaks l.fn.out (struct_events l.schema (structs l.schema l.left) (Some l.shape) (place_bytes l.place) (place_offset l.place) l.path)
    (struct_fields_events l.schema (structs l.schema l.left) (drop l.field-index l.field-items) (slice_bytes l.slice) l.path) l.out
