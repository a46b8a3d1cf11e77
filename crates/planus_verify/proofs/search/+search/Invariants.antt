use Rattle.std.proofs.Common.{◌+◌, ◌*◌, Some, drop, slice_index}
use Rattle.planus_read.specs.Tables.{table_object, table_slots, table_start}
use Rattle.planus_view.specs.VectorView.{view_of, count_of}
use Rattle.planus_view.specs.UnionVectorView.{view_of as unions_of}
use Rattle.planus_verify.specs.Schemas.{shapes, variant_in}
use Rattle.planus_verify.specs.Soughts.{ends_of}
use Rattle.planus_verify.specs.Steps.{place_faults}
use Rattle.planus_verify.specs.declared.schema.VariantKind.TheVariants as variant
use Rattle.planus_verify.proofs.Searches.{FieldsSoFar, ItemsSoFar}
use Rattle.planus_verify.proofs.search.+search.Given as goal

abbrev pub invariant-search_fields-loop-field : goal.invariant-search_fields-loop-field
invariant-search_fields-loop-field l =
    FieldsSoFar (shapes l.search.schema) (ends_of (shapes l.search.schema) l.search.sought) l.depth l.index (table_object l.table)
    (table_slots l.table) (table_start l.table) l.fields l.before (drop l.field-index l.fields) l.left

abbrev pub invariant-search_tables-loop-i : goal.invariant-search_tables-loop-i
invariant-search_tables-loop-i l =
    ItemsSoFar (shapes l.search.schema) (ends_of (shapes l.search.schema) l.search.sought) l.depth (count_of l.items)
    (λ i. place_faults l.place (Some i)) (λ i. Some (variant.Table l.index)) (view_of l.items).bytes
    (view_of l.items).start l.i l.before l.left

abbrev pub invariant-search_unions-loop-i : goal.invariant-search_unions-loop-i
invariant-search_unions-loop-i l =
    ItemsSoFar (shapes l.search.schema) (ends_of (shapes l.search.schema) l.search.sought) l.depth (unions_of l.items).count
    (λ i. place_faults l.place (Some i))
    (λ i. variant_in (shapes l.search.schema).variants l.union
    (slice_index (unions_of l.items).tags i))
    (unions_of l.items).references (unions_of l.items).start l.i l.before l.left

-- The depth falls from a table to those of its fields; the summands order the calls in between.
abbrev pub decreases-search_table : goal.decreases-search_table
decreases-search_table l = 8 * l.depth

abbrev pub decreases-search_fields : goal.decreases-search_fields
decreases-search_fields l = 8 * l.depth + 7

abbrev pub decreases-search_field : goal.decreases-search_field
decreases-search_field l = 8 * l.depth + 6

abbrev pub decreases-search_value : goal.decreases-search_value
decreases-search_value l = 8 * l.depth + 5

abbrev pub decreases-search_union : goal.decreases-search_union
decreases-search_union l = 8 * l.depth + 5

abbrev pub decreases-search_unions : goal.decreases-search_unions
decreases-search_unions l = 8 * l.depth + 5

abbrev pub decreases-search_nested : goal.decreases-search_nested
decreases-search_nested l = 8 * l.depth + 4

abbrev pub decreases-search_tables : goal.decreases-search_tables
decreases-search_tables l = 8 * l.depth + 4

abbrev pub decreases-search_variant : goal.decreases-search_variant
decreases-search_variant l = 8 * l.depth + 4

abbrev pub decreases-search_reference : goal.decreases-search_reference
decreases-search_reference l = 8 * l.depth + 3
