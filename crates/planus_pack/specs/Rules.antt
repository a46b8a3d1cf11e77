-- By what a value is packed.
use Rattle.std.specs.Prelude.{List}
use Rattle.planus_schema.specs.declared.schema.Declared.{Declared}
use Rattle.planus_pack.specs.declared.pack_options.PackOptions.{PackOptions}
use Rattle.planus_pack.specs.declared.rules.Rules.{Rules}

-- a schema's declarations, and how values are packed
pub record RulesV : Type 0 where
  pub declared : List Declared
  pub options : PackOptions

abbrev pub rules_of : Rules → RulesV
rules_of rules = record { declared = rules.declared.now; options = rules.options }
