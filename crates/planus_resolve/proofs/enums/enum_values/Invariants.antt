use Rattle.std.proofs.Common.{◌≡◌, ◌++◌, [], true, take, drop, map}
use Rattle.std.specs.Prelude.{None}
use Rattle.std.specs.List.{IsDistinct, list_all}
use Rattle.std.specs.Option.{option_map}
use Rattle.planus_syntax.specs.Values.{names_of, variant_of}
use Rattle.planus_schema.specs.Numbers.{fits}
use Rattle.planus_resolve.specs.Enums.{number_of_value, values_said, same_number}
use Rattle.planus_resolve.specs.inner.Numbers.{AreNumbers}
use Rattle.planus_resolve.specs.WrongEnums.{wrong_values}
use Rattle.planus_resolve.proofs.enums.enum_values.Given as goal

abbrev pub invariant-variants : goal.invariant-variants
invariant-variants l = record {
  names : map (λ x. x.name.items) l.values.items
      ≡ map (λ v. v.name) (map variant_of (take l.variant-index l.variants));
  docs : map (λ x. names_of x.docs.items) l.values.items
      ≡ map (λ v. v.docs) (map variant_of (take l.variant-index l.variants));
  numbers : option_map (λ ns. map number_of_value l.values.items ++ ns)
      (values_said l.flags l.previous (map variant_of (drop l.variant-index l.variants)))
      ≡ values_said l.flags None (map variant_of l.variants);
  wrong : wrong_values l.scalar l.flags l.previous (map number_of_value l.values.items)
      (drop l.variant-index l.variants) ≡ wrong_values l.scalar l.flags None [] l.variants;
  within : list_all (λ x. fits l.scalar x.number) l.values.items ≡ true;
  distinct : IsDistinct same_number (map number_of_value l.values.items);
  taken : AreNumbers l.taken (map number_of_value l.values.items);
}
