-- The variants of `Owner`.
use Rattle.std.specs.Prelude.{◌∷◌, [], List, Option, Some, None, Ok}
use Rattle.planus.specs.Printed.{Table, UnionVariant, table_variant}
use Rattle.planus_views.specs.Printed.{view_table, Checked, unknown}
use Rattle.harbour.specs.declared.owner.OwnerRef.TheVariants as owner_ref
use Rattle.harbour.specs.declared.verified.owner.OwnerView.TheVariants as owner_view
use Rattle.harbour.specs.declared.owner.OwnerRef.{OwnerRef}
use Rattle.harbour.specs.declared.verified.owner.OwnerView.{OwnerView}

abbrev pub owner_1 : OwnerRef → Option Table
owner_1 (owner_ref.Person view) = Some view.0
owner_1 _ = None

abbrev pub owner_2 : OwnerRef → Option Table
owner_2 (owner_ref.Firm view) = Some view.0
owner_2 _ = None

-- by their tags
abbrev pub owner_variants : List (UnionVariant OwnerRef)
owner_variants = table_variant 1 owner_1 ∷ table_variant 2 owner_2 ∷ []

abbrev pub owner_view_1 : OwnerView → Option Table
owner_view_1 (owner_view.Person view) = Some (view_table view.0)
owner_view_1 _ = None

abbrev pub owner_view_2 : OwnerView → Option Table
owner_view_2 (owner_view.Firm view) = Some (view_table view.0)
owner_view_2 _ = None

-- the variants of a verified one, by their tags
abbrev pub owner_view_variants : List (UnionVariant OwnerView)
owner_view_variants = table_variant 1 owner_view_1 ∷ table_variant 2 owner_view_2 ∷ []

-- what the checked reader returns
abbrev pub owner_checked : OwnerView → Checked OwnerView
owner_checked (owner_view.Unknown tag) = unknown tag
owner_checked (owner_view.Person view) = Ok (owner_view.Person view)
owner_checked (owner_view.Firm view) = Ok (owner_view.Firm view)
