-- A replay writes the body of a table.
use Rattle.std.specs.Prelude.{ℕ, max, List, [], ◌∷◌, map, Option, Some, None}
use Rattle.planus_read.specs.Values.{Field}
use Rattle.planus.specs.Steps.{bare_field}
use Rattle.planus.specs.Slots.{greatest_field}
use Rattle.planus.specs.Runs.{Listed, fields_of}
use Rattle.planus.specs.inner.Names.{name_of, listed_from}
use Rattle.planus.specs.inner.Prepared.{field_reach}
use Rattle.planus.specs.declared.replaying.table_body.TableBody.{TableBody}

abbrev pub fields_reach : List (ℕ × Field) → ℕ
fields_reach [] = 0
fields_reach (entry ∷ entries) = max (field_reach entry.1) (fields_reach entries)

abbrev pub fields_or_none : Option (List (ℕ × Field)) → List (ℕ × Field)
fields_or_none None = []
fields_or_none (Some fields) = fields

abbrev pub listed_since : TableBody → List Listed
listed_since body = listed_from body.earlier.first (map name_of body.earlier.offsets.now)

abbrev pub fields_in : TableBody → List (ℕ × Field)
fields_in body =
    fields_or_none
    (fields_of (listed_since body) [] greatest_field (map bare_field body.fields.now))
