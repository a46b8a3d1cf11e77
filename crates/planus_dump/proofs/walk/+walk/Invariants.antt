use Rattle.std.proofs.Common.{◌+◌, ◌-◌, ◌*◌, drop, Ok, Some, false}
use Rattle.planus_read.specs.Slices.{slice_bytes}
use Rattle.planus_read.specs.Places.{place_bytes, place_offset}
use Rattle.planus_dump.specs.Answers.{table_at, vector_at}
use Rattle.planus_dump.specs.Events.{events, fields_events, items_events, union_items_events, list_events, unions_events, table_events, stride_of}
use Rattle.planus_dump.specs.ReadingViews.{unions_seen, table_seen}
use Rattle.planus_dump.proofs.Fed.{Goes}
use Rattle.planus_dump.proofs.walk.+walk.Given as goal

-- The depth falls from a table to those of its fields; the summands order the calls in between.
abbrev pub decreases-dump_table : goal.decreases-dump_table
decreases-dump_table g l = 8 * l.left

abbrev pub decreases-dump_found : goal.decreases-dump_found
decreases-dump_found g l = 8 * l.left + 1

abbrev pub decreases-dump_union : goal.decreases-dump_union
decreases-dump_union g l = 8 * l.left + 3

abbrev pub decreases-dump_member : goal.decreases-dump_member
decreases-dump_member g l = 8 * l.left + 2

abbrev pub decreases-dump_items : goal.decreases-dump_items
decreases-dump_items g l = 8 * l.left + 3

abbrev pub decreases-dump_unions : goal.decreases-dump_unions
decreases-dump_unions g l = 8 * l.left + 4

abbrev pub decreases-dump_nested : goal.decreases-dump_nested
decreases-dump_nested g l = 8 * l.left + 1

abbrev pub decreases-dump_place : goal.decreases-dump_place
decreases-dump_place g l = 8 * l.left + 4

abbrev pub decreases-dump_field : goal.decreases-dump_field
decreases-dump_field g l = 8 * l.left + 6

abbrev pub decreases-dump_kind : goal.decreases-dump_kind
decreases-dump_kind g l = 8 * l.left + 5

abbrev pub decreases-dump_shape : goal.decreases-dump_shape
decreases-dump_shape g l = 8 * l.left + 7

abbrev pub invariant-dump_items-loop-i : goal.invariant-dump_items-loop-i
invariant-dump_items-loop-i g l =
    Goes g.L.Lines.takes g.L.Lines.breaks l.fn.out (list_events (events l.schema l.left) l.item l.path (vector_at (stride_of l.item) (place_bytes l.place) (place_offset l.place)))
    (items_events (events l.schema l.left) l.item (slice_bytes l.slice) l.path (l.count - l.i-counter) l.i-counter) l.out

abbrev pub invariant-dump_shape-loop-field : goal.invariant-dump_shape-loop-field
invariant-dump_shape-loop-field g l =
    Goes g.L.Lines.takes g.L.Lines.breaks l.fn.out (table_events (events l.schema l.left) l.schema l.shape l.path (table_at (place_bytes l.place) (place_offset l.place)))
    (fields_events (events l.schema l.left) l.schema (table_seen l.table) l.path (drop l.field-index l.field-items)) l.out

abbrev pub invariant-dump_unions-loop-i : goal.invariant-dump_unions-loop-i
invariant-dump_unions-loop-i g l =
    Goes g.L.Lines.takes g.L.Lines.breaks l.fn.out (unions_events (events l.schema l.left) l.schema false l.index l.path (Ok (Some (unions_seen l.unions))))
    (union_items_events (events l.schema l.left) l.schema l.index (unions_seen l.unions) l.path (l.count - l.i-counter) l.i-counter) l.out
