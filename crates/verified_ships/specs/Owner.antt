-- The variants of `Owner`.
use Rattle.std.specs.Prelude.{◌∷◌, [], List, Option, Some, None, Ok}
use Rattle.planus.specs.Printed.{Table, UnionVariant, table_variant}
use Rattle.planus_views.specs.Views.{view_table}
use Rattle.planus_views.specs.Members.{Checked, unknown}
use Rattle.verified_ships.specs.declared.owner.OwnerView.TheVariants as owner_view
use Rattle.verified_ships.specs.declared.owner.OwnerView.{OwnerView}

abbrev pub owner_1 : OwnerView → Option Table
owner_1 (owner_view.Person view) = Some (view_table view.0)
owner_1 _ = None

abbrev pub owner_2 : OwnerView → Option Table
owner_2 (owner_view.Firm view) = Some (view_table view.0)
owner_2 _ = None

-- by their tags
abbrev pub owner_variants : List (UnionVariant OwnerView)
owner_variants = table_variant 1 owner_1 ∷ table_variant 2 owner_2 ∷ []

-- what the checked reader returns
abbrev pub checked_owner : OwnerView → Checked OwnerView
checked_owner (owner_view.Unknown tag) = unknown tag
checked_owner (owner_view.Person view) = Ok (owner_view.Person view)
checked_owner (owner_view.Firm view) = Ok (owner_view.Firm view)
