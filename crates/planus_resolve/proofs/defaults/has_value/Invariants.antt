use Rattle.std.proofs.Common.{◌≡◌, length, map}
use Rattle.std.specs.Prelude.{None}
use Rattle.std.specs.List.{list_any}
use Rattle.planus_syntax.specs.Values.{variant_of}
use Rattle.planus_resolve.specs.Enums.{same_number, numbers_said}
use Rattle.planus_resolve.proofs.defaults.has_value.Given as goal

abbrev pub invariant-variants : goal.invariant-variants
invariant-variants l =
    list_any (λ v. same_number v l.number) (numbers_said l.previous (map variant_of l.rest))
    ≡ list_any (λ v. same_number v l.number) (numbers_said None (map variant_of l.variants))

abbrev pub decreases-variants : goal.decreases-variants
decreases-variants l = length l.rest
