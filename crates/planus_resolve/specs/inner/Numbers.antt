-- Maps of numbers that are taken.
use Rattle.std.specs.Prelude.{◌≡◌, ℕ, Bool, List, if◌then◌else◌}
use Rattle.std.specs.List.{list_any}
use Rattle.std.specs.BTreeMap.{BTreeMap, get}
use Rattle.std.specs.Ordering.{nat_cmp}
use Rattle.planus_schema.specs.declared.number.Number.{Number}
use Rattle.planus_resolve.specs.declared.taken.Taken.{Taken}
use Rattle.planus_resolve.specs.Names.{is_set}
use Rattle.planus_resolve.specs.Enums.{same_number}

abbrev pub has_magnitude : BTreeMap ℕ ℕ → ℕ → Bool
has_magnitude m n = is_set (get nat_cmp m n)

abbrev pub has_number : Taken → Number → Bool
has_number t n =
    if n.negative then has_magnitude t.below n.magnitude else has_magnitude t.others n.magnitude

-- the numbers of these maps are those of the list
abbrev pub AreNumbers : Taken → List Number → Type 0
AreNumbers t list = (n : Number) → has_number t n ≡ list_any (λ m. same_number m n) list
