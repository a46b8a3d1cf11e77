-- The variants of `Cause`.
use Rattle.std.specs.Prelude.{◌∷◌, [], List, Option, Some, None, Ok}
use Rattle.planus.specs.Printed.{Table, UnionVariant, table_variant}
use Rattle.planus_views.specs.Printed.{view_table, Checked, unknown}
use Rattle.harbour.specs.declared.cause.CauseRef.TheVariants as cause_ref
use Rattle.harbour.specs.declared.verified.cause.CauseView.TheVariants as cause_view
use Rattle.harbour.specs.declared.cause.CauseRef.{CauseRef}
use Rattle.harbour.specs.declared.verified.cause.CauseView.{CauseView}

abbrev pub cause_1 : CauseRef → Option Table
cause_1 (cause_ref.Entry view) = Some view.0
cause_1 _ = None

abbrev pub cause_2 : CauseRef → Option Table
cause_2 (cause_ref.Origin view) = Some view.0
cause_2 _ = None

-- by their tags
abbrev pub cause_variants : List (UnionVariant CauseRef)
cause_variants = table_variant 1 cause_1 ∷ table_variant 2 cause_2 ∷ []

abbrev pub cause_view_1 : CauseView → Option Table
cause_view_1 (cause_view.Entry view) = Some (view_table view.0)
cause_view_1 _ = None

abbrev pub cause_view_2 : CauseView → Option Table
cause_view_2 (cause_view.Origin view) = Some (view_table view.0)
cause_view_2 _ = None

-- the variants of a verified one, by their tags
abbrev pub cause_view_variants : List (UnionVariant CauseView)
cause_view_variants = table_variant 1 cause_view_1 ∷ table_variant 2 cause_view_2 ∷ []

-- what the checked reader returns
abbrev pub cause_checked : CauseView → Checked CauseView
cause_checked (cause_view.Unknown tag) = unknown tag
cause_checked (cause_view.Entry view) = Ok (cause_view.Entry view)
cause_checked (cause_view.Origin view) = Ok (cause_view.Origin view)
