-- The writing of a table as a step of a run.
use Rattle.std.proofs.Common.{◌≡◌, ℕ, ◌+◌, max, List, [], ◌∷◌, length, refl, sym, ap, ◌∙◌, subst}
use Rattle.std.proofs.Common.{Result, Ok, Err, Option, Some, None, inl}
use Rattle.std.proofs.Common.{◌≤◌, map, arith}
use Rattle.std.specs.List.{AllByRecursion}
use Rattle.std.specs.Option.{option_map}
use Rattle.planus_read.specs.Values as value
use Rattle.planus_read.specs.Values.{Field, slot_count}
use Rattle.planus_write.specs.State as builder
use Rattle.planus_write.specs.Placing.{Outcome}
use Rattle.planus_write.specs.Preparing.{WritesEntries}
use Rattle.planus_write.specs.Parts.{entries_of, named_by, last_of}
use Rattle.planus_write.specs.Tables.{table_entries, declared_of, slots_used, object_entries, body_bytes}
use Rattle.planus_write.specs.TableWriting.{WritesTable}
use Rattle.planus_write.specs.declared.errors.BuildError.{BuildError}
use Rattle.planus_write.specs.declared.offset.Offset.{Offset}
use Rattle.planus.specs.Steps.{FieldStep, table}
use Rattle.planus.specs.Slots.{greatest_field}
use Rattle.planus.specs.Kinds.{kind_named}
use Rattle.planus.specs.Runs.{value_of, entries_put, fields_of, table_of}
use Rattle.planus_write.specs.declared.errors.BuildError.TheVariants as build
use Rattle.planus_write.specs.Tables.{IsFieldAfter, body_size}
use Rattle.planus_write.specs.TableWriting.{Writer, WasTold}
use Rattle.planus.specs.Replays.{replay_error}
use Rattle.planus.specs.inner.Prepared.{field_reach}
use Rattle.planus.specs.inner.Filling.{fields_or_none, fields_reach}
use Rattle.planus.specs.inner.Names.{offset_named, name_of, listed_from, IsReached}
use Rattle.planus.specs.inner.Replaying.{AreReached}
use Rattle.planus.specs.declared.replaying.faults.ReplayError.{ReplayError}
use Rattle.planus.specs.declared.replaying.faults.ReplayError.TheVariants.{OutOfMemory as ReplayOutOfMemory, TooLarge as ReplayTooLarge, BadStep}
use Rattle.planus.specs.declared.replaying.state.ReplayState.{ReplayState}
use Rattle.planus.specs.declared.replaying.written.Written.{Written}
use Rattle.planus.specs.inner.Replaying.{values_listed, Advanced, WritesValue}
use Rattle.planus.proofs.Naming.{took_one}
use Rattle.planus.proofs.Stepping.{runs_on, settings_stay, stops, lacks}
use Rattle.planus.proofs.Declaring.{values_reached}
use Rattle.planus.proofs.TableFields.{table_made}
use Rattle.planus.proofs.WrittenTables.{tables_are_written}

abbrev pub WritesTableAt : {T : Type 0} → List (ℕ × Field) → Outcome (Offset T)
WritesTableAt all before (Ok offset) after = (got : List ℕ) × WritesEntries (table_entries all) [] before (Ok got) after × (last_of got ≡ offset.distance)
WritesTableAt all before (Err error) after = WritesEntries (table_entries all) [] before (Err error) after

module _ (fields : List (ℕ × FieldStep)) (all : List (ℕ × Field)) (old : ReplayState) (made : table_of (values_listed old) fields ≡ Some all) where
  table_value_is : value_of (values_listed old) (table fields) ≡ Some (value.table all)
  table_value_is = ap (option_map value.table) made

  table_are : entries_put (values_listed old) (table fields) ≡ Some (entries_of (value.table all))
  table_are = ap (option_map entries_of) table_value_is

  table_writes : {T : Type 0} (offset : Offset T) (after : builder.State) → WritesTableAt all old.builder (Ok offset) after
      → (got : List ℕ) × WritesEntries (entries_of (value.table all)) [] old.builder (Ok got) after × (named_by (value.table all) got ≡ offset_named offset)
  table_writes offset after put = (put.0, put.1, ap (λ d. record { distance = d; tags = None }) put.2)

  pub table_advanced : (T : Type 0) (answer : Result (Unit {0}) ReplayError) (new : ReplayState) → WritesValue {A = Offset T} offset_named (WritesTableAt all) old answer new → Advanced old (table fields) answer new
  table_advanced T (Ok done) new noted = record {
    taken = took_one old new (table fields) (Some noted.noted) (refl, ap (λ name. Some (kind_named name)) (sym noted.same)) noted.first noted.pushed;
    advances = runs_on offset_named (WritesTableAt all) (table fields) (value.table all) old table_value_is table_are table_writes new noted (λ history after. refl);
    settings = settings_stay offset_named (WritesTableAt all) (table fields) (value.table all) old table_value_is table_are table_writes new noted;
  }
  table_advanced T (Err ReplayOutOfMemory) new h = lacks {A = Offset T} offset_named (WritesTableAt all) (table fields) (value.table all) old table_value_is table_are table_writes (λ after refused. refused) new h
  table_advanced T (Err ReplayTooLarge) new h = stops {A = Offset T} offset_named (WritesTableAt all) (table fields) (value.table all) old table_value_is table_are table_writes h.0 h.1
  table_advanced T (Err (BadStep number why)) new h = absurd h

slots_same : (all : List (ℕ × Field)) → slots_used (declared_of all) ≡ slot_count all
slots_same [] = refl
slots_same (entry ∷ all) = ap (max (entry.0 + 1)) (slots_same all)

pub table_at : {T : Type 0} (all : List (ℕ × Field)) (before after : builder.State) (offset : Offset T) → WritesTable (declared_of all) (λ place. body_bytes place all) before (Ok tt) after
    → offset.distance ≡ length after.bytes → WritesTableAt all before (Ok offset) after
table_at all before after offset put at = (
  put.0,
  subst (λ n. WritesEntries (object_entries n (declared_of all) (λ place. body_bytes place all)) [] before (Ok put.0) after) (slots_same all) put.1,
  put.2 ∙ sym at,
)

pub table_refused : (T : Type 0) (all : List (ℕ × Field)) (before after : builder.State) (error : BuildError) → WritesTable (declared_of all) (λ place. body_bytes place all) before (Err error) after
    → WritesTableAt {T = T} all before (Err error) after
table_refused T all before after error put = subst (λ n. WritesEntries (object_entries n (declared_of all) (λ place. body_bytes place all)) [] before (Err error) after) (slots_same all) put

pub table_stopped : (fields : List (ℕ × FieldStep)) (all : List (ℕ × Field)) (old : ReplayState) → table_of (values_listed old) fields ≡ Some all
    → (error : BuildError) (new : ReplayState) → WritesTableAt {T = Unit {0}} all old.builder (Err error) new.builder → Advanced old (table fields) (Err (replay_error error)) new
table_stopped fields all old made build.OutOfMemory new h = table_advanced fields all old made (Unit {0}) (Err ReplayOutOfMemory) new (inl (new.builder, h))
table_stopped fields all old made build.TooLarge new h = table_advanced fields all old made (Unit {0}) (Err ReplayTooLarge) new (new.builder, h)

reach_within : (bytes : ℕ) (all : List (ℕ × Field)) → AllByRecursion (λ entry. IsFieldAfter bytes entry.1) all → fields_reach all ≤ bytes
reach_within bytes [] fields = omega arith
reach_within bytes (entry ∷ all) fields =
    let first = by_field entry.1 fields.0 in let rest = reach_within bytes all fields.1 in omega (arith, first, rest)
  where
    by_field : (field : Field) → IsFieldAfter bytes field → field_reach field ≤ bytes
    by_field (value.plain item) is = omega arith
    by_field (value.reference distance) is = is
    by_field (value.tags distance) is = is
    by_field (value.values distance) is = is

module _ (old : ReplayState) (offsets : List (Option Written)) (are : offsets ≡ old.offsets.items) (fields : List (ℕ × FieldStep)) (all : List (ℕ × Field))
    (made : table_of (values_listed old) fields ≡ Some all) where
  abbrev these : List (ℕ × Field)
  these = fields_or_none (fields_of (listed_from old.first (map name_of offsets)) [] greatest_field fields)

  same : these ≡ all
  same =
      ap (λ (os : List (Option Written)). fields_or_none (fields_of (listed_from old.first (map name_of os)) [] greatest_field fields)) are ∙ ap fields_or_none (table_made (values_listed old) fields all made).1

  pub body_sized : (writer : Writer) → WasTold writer (declared_of all) → body_size these + 4 ≡ writer.object_size
  body_sized writer told =
      let size = ap body_size same in let object = told.object_size in omega (arith, size, object)

  pub body_reaches : AreReached old → fields_reach these ≤ length old.builder.bytes
  body_reaches reached =
      let written = tables_are_written (λ one. IsReached (length old.builder.bytes) one.named) (length old.builder.bytes) (λ one there. there) (values_listed old)
      (values_reached old reached) fields all made in
      subst (λ fields. fields_reach fields ≤ length old.builder.bytes) (sym same) (reach_within (length old.builder.bytes) all written.fields)

  encoding_same : (answer : Result (Unit {0}) BuildError) (after : builder.State) → WritesTable (declared_of all) (λ place. body_bytes place these) old.builder answer after
      → WritesTable (declared_of all) (λ place. body_bytes place all) old.builder answer after
  encoding_same answer after put = subst (λ (fields : List (ℕ × Field)). WritesTable (declared_of all) (λ place. body_bytes place fields) old.builder answer after) same put

  pub table_put : (offset : Offset (Unit {0})) (after : builder.State) → WritesTable (declared_of all) (λ place. body_bytes place these) old.builder (Ok tt) after
      → offset.distance ≡ length after.bytes → WritesTableAt all old.builder (Ok offset) after
  table_put offset after put at = table_at all old.builder after offset (encoding_same (Ok tt) after put) at

  pub table_not_put : (error : BuildError) (after : builder.State) → WritesTable (declared_of all) (λ place. body_bytes place these) old.builder (Err error) after
      → WritesTableAt {T = Unit {0}} all old.builder (Err error) after
  table_not_put error after put = table_refused (Unit {0}) all old.builder after error (encoding_same (Err error) after put)
