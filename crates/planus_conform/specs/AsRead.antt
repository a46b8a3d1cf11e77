-- What accessors return is what is found.
use Rattle.std.specs.Prelude.{◌≡◌, ℕ, List, false, Option, Some, None, Result, Ok, Err}
use Rattle.std.specs.Borrow.{Bor}
use Rattle.planus_read.specs.declared.errors.ErrorKind.{ErrorKind}
use Rattle.planus_read.specs.declared.table_reader.Table.{Table}
use Rattle.planus_read.specs.Clauses.{Answer, shown as showing}
use Rattle.planus_read.specs.Reading.{text_reading, table_reading}
use Rattle.planus_read.specs.Slices.{ShowsBytes}
use Rattle.planus_read.specs.Tables.{Reads, FieldAnswer, ShowsTable}
use Rattle.planus_dump.specs.Lines.{quoted}
use Rattle.planus_dump.specs.ReadingViews.{table_seen}
use Rattle.planus_dump.specs.Tests.{fault_text}
use Rattle.planus_schema.specs.declared.schema.Base.TheVariants as base
use Rattle.planus_schema.specs.declared.schema.Declared.{Declared}
use Rattle.planus_schema.specs.declared.schema.FieldType.{FieldType}
use Rattle.planus_schema.specs.declared.schema.TableField.{TableField}
use Rattle.planus_conform.specs.Found.{Found, absent, shown, fault, table}
use Rattle.planus_conform.specs.Reads.{default_of, field_found}

abbrev pub text_type : FieldType
text_type = record { vector = false; base = base.Text }

abbrev pub table_type : ℕ → FieldType
table_type i = record { vector = false; base = base.Table i }

-- a field of this type that may be absent
pub record IsOptional (type_ : FieldType) (f : TableField) : Type 0 where
  pub kind : f.kind ≡ type_
  pub optional : f.required ≡ false
  pub plain : default_of f ≡ None

abbrev pub reads_text : Reads (Bor (List ℕ))
reads_text S start f r = Answer (showing ShowsBytes (text_reading S f)) r

abbrev pub text_answer : Result (Option (Bor (List ℕ))) ErrorKind → Found
text_answer (Ok None) = absent
text_answer (Ok (Some text)) = shown (quoted text.now)
text_answer (Err kind) = fault (fault_text kind)

-- An accessor of a string returns what is found.
abbrev pub TextsAreFound : Type 0
TextsAreFound =
    (ds : List Declared) (f : TableField) → IsOptional text_type f → (view : Table)
    → (r : Result (Option (Bor (List ℕ))) ErrorKind) → FieldAnswer reads_text view f.slot r
    → field_found ds f (table_seen view) ≡ text_answer r

abbrev pub reads_table : Reads Table
reads_table S start f r = Answer (showing (ShowsTable S start) (table_reading S f)) r

abbrev pub table_answer : ℕ → Result (Option Table) ErrorKind → Found
table_answer i (Ok None) = absent
table_answer i (Ok (Some view)) = table i (table_seen view)
table_answer i (Err kind) = fault (fault_text kind)

-- An accessor of a table returns what is found.
abbrev pub TablesAreFound : Type 0
TablesAreFound =
    (ds : List Declared) (f : TableField) (i : ℕ) → IsOptional (table_type i) f → (view : Table)
    → (r : Result (Option Table) ErrorKind) → FieldAnswer reads_table view f.slot r
    → field_found ds f (table_seen view) ≡ table_answer i r
