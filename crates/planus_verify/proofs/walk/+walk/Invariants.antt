use Rattle.std.proofs.Common.{◌+◌, ◌*◌, Some, drop}
use Rattle.planus_read.specs.Tables.{table_object, table_slots, table_start}
use Rattle.planus_view.specs.VectorView.{view_of, count_of}
use Rattle.planus_view.specs.UnionVectorView.{view_of as unions_of}
use Rattle.planus_verify.specs.Schemas.{shapes}
use Rattle.planus_verify.specs.Steps.{reference_steps, place_faults}
use Rattle.planus_verify.specs.Walks.{Walks}
use Rattle.planus_verify.proofs.Fields.{FieldsSoFar}
use Rattle.planus_verify.proofs.Loops.{ItemsSoFar}
use Rattle.planus_verify.proofs.Unions.{items_steps}
use Rattle.planus_verify.proofs.walk.+walk.Given as goal

abbrev pub invariant-verify_fields-loop-field : goal.invariant-verify_fields-loop-field
invariant-verify_fields-loop-field l =
    FieldsSoFar (Walks (shapes l.schema) l.depth) (shapes l.schema).variants l.index
    (table_object l.table) (table_slots l.table) (table_start l.table) l.fields l.before
    (drop l.field-index l.fields) l.left

abbrev pub invariant-verify_tables-loop-i : goal.invariant-verify_tables-loop-i
invariant-verify_tables-loop-i l =
    ItemsSoFar (Walks (shapes l.schema) l.depth) (count_of l.items)
    (λ i. reference_steps (place_faults l.place (Some i)) l.index (view_of l.items).bytes
    (view_of l.items).start (i * 4))
    l.i l.before l.left

abbrev pub invariant-verify_unions-loop-i : goal.invariant-verify_unions-loop-i
invariant-verify_unions-loop-i l =
    ItemsSoFar (Walks (shapes l.schema) l.depth) (unions_of l.items).count
    (items_steps (shapes l.schema).variants l.place l.union (unions_of l.items)) l.i l.before l.left

-- The depth falls from a table to those of its fields; the summands order the calls in between.
abbrev pub decreases-verify_table : goal.decreases-verify_table
decreases-verify_table l = 8 * l.depth

abbrev pub decreases-verify_fields : goal.decreases-verify_fields
decreases-verify_fields l = 8 * l.depth + 7

abbrev pub decreases-verify_field : goal.decreases-verify_field
decreases-verify_field l = 8 * l.depth + 6

abbrev pub decreases-verify_value : goal.decreases-verify_value
decreases-verify_value l = 8 * l.depth + 5

abbrev pub decreases-verify_union : goal.decreases-verify_union
decreases-verify_union l = 8 * l.depth + 5

abbrev pub decreases-verify_unions : goal.decreases-verify_unions
decreases-verify_unions l = 8 * l.depth + 5

abbrev pub decreases-verify_nested : goal.decreases-verify_nested
decreases-verify_nested l = 8 * l.depth + 4

abbrev pub decreases-verify_tables : goal.decreases-verify_tables
decreases-verify_tables l = 8 * l.depth + 4

abbrev pub decreases-verify_variant : goal.decreases-verify_variant
decreases-verify_variant l = 8 * l.depth + 4

abbrev pub decreases-verify_reference : goal.decreases-verify_reference
decreases-verify_reference l = 8 * l.depth + 3
