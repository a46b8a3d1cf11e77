use Rattle.std.proofs.Common.{◌≡◌, length, map}
use Rattle.planus_syntax.specs.Values.{attribute_of}
use Rattle.planus_resolve.specs.Names.{setting, attribute_named}
use Rattle.planus_resolve.proofs.attributes.setting.Given as goal

abbrev pub invariant-attributes : goal.invariant-attributes
invariant-attributes l = record {
  said : setting l.word (map attribute_of l.rest) ≡ setting l.word (map attribute_of l.attributes);
  place : attribute_named l.word l.rest ≡ attribute_named l.word l.attributes;
}

abbrev pub decreases-attributes : goal.decreases-attributes
decreases-attributes l = length l.rest
