use Rattle.std.proofs.Common.{◌≡◌, [], take, drop, map}
use Rattle.planus_syntax.specs.Values.{variant_of}
use Rattle.planus_resolve.specs.inner.Index.{IsTaken}
use Rattle.planus_schema.specs.Distinct.{AreDistinct}
use Rattle.planus_resolve.specs.WrongEnums.{wrong_names}
use Rattle.planus_resolve.proofs.enums.check_names.Given as goal

abbrev pub invariant-variants : goal.invariant-variants
invariant-variants l = record {
  taken : IsTaken l.names (map (λ v. v.name) (map variant_of (take l.variant-index l.variants)));
  wrong : wrong_names (map (λ v. v.name) (map variant_of (take l.variant-index l.variants)))
      (drop l.variant-index l.variants) ≡ wrong_names [] l.variants;
  distinct : AreDistinct (map (λ v. v.name) (map variant_of (take l.variant-index l.variants)));
}
