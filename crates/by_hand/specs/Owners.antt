-- The variants of an owner.
use Rattle.std.specs.Prelude.{ℕ, List, [], ◌∷◌, Option, Some, None}
use Rattle.std.specs.Borrow.{Bor}
use Rattle.planus.specs.read.declared.table_reader.Table.{Table}
use Rattle.planus.specs.Unions.{UnionVariant, table_variant, text_variant}
use Rattle.by_hand.specs.declared.owner.OwnerRef.{OwnerRef}
use Rattle.by_hand.specs.declared.owner.OwnerRef.TheVariants as owner

abbrev pub name_of : OwnerRef → Option (Bor (List ℕ))
name_of (owner.Name name) = Some name
name_of (owner.Boat boat) = None

abbrev pub boat_of : OwnerRef → Option Table
boat_of (owner.Name name) = None
boat_of (owner.Boat boat) = Some boat.table

abbrev pub owner_variants : List (UnionVariant OwnerRef)
owner_variants = text_variant 1 name_of ∷ table_variant 2 boat_of ∷ []
