-- The variants of `Berth`.
use Rattle.std.specs.Prelude.{◌∷◌, [], ℕ, List, Option, Some, None, Ok}
use Rattle.std.specs.Borrow.{Bor}
use Rattle.planus.specs.Printed.{Table, SliceWithStartOffset, plain_slice, UnionVariant}
use Rattle.planus.specs.Printed.{table_variant, struct_variant, text_variant}
use Rattle.planus_views.specs.Printed.{view_table, Checked, unknown}
use Rattle.quay.specs.declared.berth.BerthRef.TheVariants as berth_ref
use Rattle.quay.specs.declared.verified.berth.BerthView.TheVariants as berth_view
use Rattle.quay.specs.declared.berth.BerthRef.{BerthRef}
use Rattle.quay.specs.declared.verified.berth.BerthView.{BerthView}

abbrev pub berth_1 : BerthRef → Option Table
berth_1 (berth_ref.Boat view) = Some view.0
berth_1 _ = None

abbrev pub berth_2 : BerthRef → Option SliceWithStartOffset
berth_2 (berth_ref.Waiting view) = Some (plain_slice view)
berth_2 _ = None

abbrev pub berth_3 : BerthRef → Option SliceWithStartOffset
berth_3 (berth_ref.Empty view) = Some (plain_slice view)
berth_3 _ = None

abbrev pub berth_4 : BerthRef → Option (Bor (List ℕ))
berth_4 (berth_ref.Note view) = Some view
berth_4 _ = None

-- by their tags
abbrev pub berth_variants : List (UnionVariant BerthRef)
berth_variants = table_variant 1 berth_1 ∷ struct_variant 2 16 berth_2 ∷
    struct_variant 3 5 berth_3 ∷ text_variant 4 berth_4 ∷ []

abbrev pub berth_view_1 : BerthView → Option Table
berth_view_1 (berth_view.Boat view) = Some (view_table view.0)
berth_view_1 _ = None

abbrev pub berth_view_2 : BerthView → Option SliceWithStartOffset
berth_view_2 (berth_view.Waiting view) = Some (plain_slice view)
berth_view_2 _ = None

abbrev pub berth_view_3 : BerthView → Option SliceWithStartOffset
berth_view_3 (berth_view.Empty view) = Some (plain_slice view)
berth_view_3 _ = None

abbrev pub berth_view_4 : BerthView → Option (Bor (List ℕ))
berth_view_4 (berth_view.Note view) = Some view
berth_view_4 _ = None

-- the variants of a verified one, by their tags
abbrev pub berth_view_variants : List (UnionVariant BerthView)
berth_view_variants = table_variant 1 berth_view_1 ∷ struct_variant 2 16 berth_view_2 ∷
    struct_variant 3 5 berth_view_3 ∷ text_variant 4 berth_view_4 ∷ []

-- what the checked reader returns
abbrev pub berth_checked : BerthView → Checked BerthView
berth_checked (berth_view.Unknown tag) = unknown tag
berth_checked (berth_view.Boat view) = Ok (berth_view.Boat view)
berth_checked (berth_view.Waiting view) = Ok (berth_view.Waiting view)
berth_checked (berth_view.Empty view) = Ok (berth_view.Empty view)
berth_checked (berth_view.Note view) = Ok (berth_view.Note view)
