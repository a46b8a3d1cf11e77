-- The schema.
use Rattle.planus_views.specs.verify.Schemas.{Shapes}
use Rattle.verified_ships.specs.declared.schema.TheConstants.{FIELDS, TABLES, VARIANTS}

abbrev pub ships_schema : Shapes
ships_schema = record { fields = FIELDS; tables = TABLES; variants = VARIANTS }
