-- What accessors of strings and tables return is found.
use Rattle.std.proofs.Common.{◌≡◌, ◌≢◌, ℕ, drop, take, Bool, true, false, List, refl, sym, ap, ◌∙◌, Some, None, Ok, Err}
use Rattle.std.specs.Prelude.{◌==◌, if◌then◌else◌}
use Rattle.std.proofs.lemmas.Bool.{eqb-true}
use Rattle.planus_read.specs.declared.table_reader.Table.{Table}
use Rattle.planus_read.specs.Tables.{slot_of, table_object}
use Rattle.planus_dump.specs.Answers.{leaf_at, Seen, table_at}
use Rattle.planus_dump.specs.AsRead.{ReadingsAreSaid}
use Rattle.planus_dump.specs.Lines.{quoted}
use Rattle.planus_dump.specs.ReadingViews.{table_seen}
use Rattle.planus_dump.specs.declared.values.Leaf.TheVariants as leaf
use Rattle.planus_schema.specs.declared.schema.Declared.{Declared}
use Rattle.planus_schema.specs.declared.schema.FieldType.{FieldType}
use Rattle.planus_schema.specs.declared.schema.TableField.{TableField}
use Rattle.planus_conform.specs.Found.{absent, shown, table}
use Rattle.planus_conform.specs.Values.{said, table_found}
use Rattle.planus_conform.specs.Reads.{absent_found, present_found, placed_found, found_by, field_found}
use Rattle.planus_conform.specs.AsRead.{IsOptional, text_type, table_type, TextsAreFound, TablesAreFound}

absent_is : (f : TableField) → IsOptional text_type f → absent_found f ≡ absent
absent_is f t = rw (t.optional, t.kind, t.plain) refl

not_zero : (n : ℕ) → n ≢ 0 → (n == 0) ≡ false
not_zero n h = by_test (n == 0) refl
  where
    by_test : (b : Bool) → (n == 0) ≡ b → b ≡ false
    by_test true e = absurd (h (eqb-true n 0 e))
    by_test false e = refl

-- one of this type has one slot
text_placed : (ds : List Declared) (f : TableField) → IsOptional text_type f → (view : Table) → field_found ds f (table_seen view) ≡ placed_found ds f (table_seen view)
text_placed ds f t view = ap (λ (k : FieldType). found_by ds f k.base (table_seen view)) t.kind

field_is : (ds : List Declared) (f : TableField) → IsOptional text_type f → (view : Table) → slot_of view f.slot ≢ 0
    → field_found ds f (table_seen view) ≡ said (leaf_at leaf.Text (table_object view) (slot_of view f.slot))
field_is ds f t view h =
    text_placed ds f t view
    ∙ ap (λ b. if b then absent_found f else present_found ds f.kind (table_object view) (slot_of view f.slot)) (not_zero (slot_of view f.slot) h)
    ∙ ap (λ (k : FieldType). present_found ds k (table_object view) (slot_of view f.slot)) t.kind

pub texts_are_found : ((S : List ℕ) (f : ℕ) → ReadingsAreSaid S f) → TextsAreFound
texts_are_found says ds f t view (Ok None) a =
    text_placed ds f t view
    ∙ ap (λ n. if n == 0 then absent_found f else present_found ds f.kind (table_object view) n) a ∙ absent_is f t
texts_are_found says ds f t view (Ok (Some b)) a =
    field_is ds f t view a.0
    ∙ ap said ((says (table_object view) (slot_of view f.slot)).text.answer (Ok a.1.0) a.1.1)
    ∙ ap (λ x. shown (quoted x)) (sym a.1.2)
texts_are_found says ds f t view (Err e) a =
    field_is ds f t view a.0
    ∙ ap said ((says (table_object view) (slot_of view f.slot)).text.answer (Err e) a.1)

absent_table : (i : ℕ) (f : TableField) → IsOptional (table_type i) f → absent_found f ≡ absent
absent_table i f t = rw (t.optional, t.kind, t.plain) refl

table_placed : (ds : List Declared) (f : TableField) (i : ℕ) → IsOptional (table_type i) f → (view : Table) → field_found ds f (table_seen view) ≡ placed_found ds f (table_seen view)
table_placed ds f i t view = ap (λ (k : FieldType). found_by ds f k.base (table_seen view)) t.kind

table_is : (ds : List Declared) (f : TableField) (i : ℕ) → IsOptional (table_type i) f → (view : Table) → slot_of view f.slot ≢ 0
    → field_found ds f (table_seen view) ≡ table_found i (table_at (table_object view) (slot_of view f.slot))
table_is ds f i t view h =
    table_placed ds f i t view
    ∙ ap (λ b. if b then absent_found f else present_found ds f.kind (table_object view) (slot_of view f.slot)) (not_zero (slot_of view f.slot) h)
    ∙ ap (λ (k : FieldType). present_found ds k (table_object view) (slot_of view f.slot)) t.kind

abbrev seen_of : List ℕ → List ℕ → Seen
seen_of o s = record { object = o; slots = s }

pub tables_are_found : ((S : List ℕ) (f : ℕ) → ReadingsAreSaid S f) → TablesAreFound
tables_are_found says ds f i t view (Ok None) a =
    table_placed ds f i t view
    ∙ ap (λ n. if n == 0 then absent_found f else present_found ds f.kind (table_object view) n) a ∙ absent_table i f t
tables_are_found says ds f i t view (Ok (Some b)) a =
    table_is ds f i t view a.0
    ∙ ap (λ r. table_found i r) ((says (table_object view) (slot_of view f.slot)).table.answer (Ok a.1.0) a.1.1)
    ∙ ap (λ o. table i (seen_of o (drop 4 (take a.1.0.size (drop a.1.0.vtable (table_object view)))))) (sym a.1.2.object_bytes)
    ∙ ap (λ s. table i (seen_of (table_object b) s)) (sym a.1.2.slots)
tables_are_found says ds f i t view (Err e) a =
    table_is ds f i t view a.0
    ∙ ap (λ r. table_found i r) ((says (table_object view) (slot_of view f.slot)).table.answer (Err e) a.1)
