-- The first event of a dump is a line.
use Rattle.std.proofs.Common.{◌≡◌, ◌≢◌, ℕ, zero, suc, ◌<◌, List, [], ◌∷◌, length, true, refl, ap, ◌∙◌, arith, Some, Result, Ok, Err}
use Rattle.std.specs.Prelude.{slice_get, codes}
use Rattle.std.specs.String.{string_bytes}
use Rattle.std.proofs.lemmas.Bool.Decides.{nat_tests}
use Rattle.planus_dump.specs.Answers.{Seen, table_at}
use Rattle.planus_dump.specs.Dumped.{events_of}
use Rattle.planus_dump.specs.Events.{Event, line, faulty, deep, TableEvents, events, fields_events, shape_events, table_events}
use Rattle.planus_dump.specs.Lines.{fault_line, table_line}
use Rattle.planus_dump.specs.Schemas.{is_good, table_count}
use Rattle.planus_dump.specs.declared.schemas.Schema.{Schema}
use Rattle.planus_dump.specs.declared.schemas.TableSchema.{TableSchema}
use Rattle.planus_dump.proofs.GoodSchemas.{good_parts}
use Rattle.planus_dump.proofs.Feeds.{events-more}

abbrev pub BeginsWithLine : List Event → Type 0
BeginsWithLine es = (next : Event) × (rest : List Event) × (es ≡ next ∷ rest) × (next ≢ deep)

line_is : (l : List ℕ) → line l ≢ deep
line_is l e = cc

faulty_is : (l : List ℕ) → faulty l ≢ deep
faulty_is l e = cc

table_there : (tables : List TableSchema) (n : ℕ) → n < length tables → (table : TableSchema) × (slice_get tables n ≡ Some table)
table_there [] n h = absurd (omega (arith, h))
table_there (table ∷ tables) zero h = (table, refl)
table_there (table ∷ tables) (suc n) h = table_there tables n (omega (arith, h))

of_table : (E : TableEvents) (schema : Schema) (shape : TableSchema) (path : List ℕ) (answer : Result Seen (List ℕ)) → BeginsWithLine (table_events E schema shape path answer)
of_table E schema shape path (Ok table) = (line (table_line path (string_bytes shape.name)), fields_events E schema table path shape.fields.items, refl, line_is (table_line path (string_bytes shape.name)))
of_table E schema shape path (Err fault) = (faulty (fault_line path fault), [], refl, faulty_is (fault_line path fault))

root_there : (schema : Schema) → is_good schema ≡ true → schema.root < table_count schema
root_there schema good = let inside = (good_parts schema good).root in grind (arith, nat_tests, inside)

pub begins_with_line : (schema : Schema) (bytes : List ℕ) → is_good schema ≡ true → BeginsWithLine (events_of schema bytes)
begins_with_line schema bytes good =
    let shape = table_there schema.tables.items schema.root (root_there schema good) in
    let first = of_table (events schema 63) schema shape.0 (codes "root") (table_at bytes 0) in
    let some : 64 ≢ 0 = λ e. omega (arith, e) in (
      first.0,
      first.1,
      events-more schema 64 schema.root bytes 0 (codes "root") some
          ∙ ap (λ o. shape_events (events schema 63) schema o bytes 0 (codes "root")) shape.1 ∙ first.2,
      first.3,
    )
