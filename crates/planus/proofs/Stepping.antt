-- The builder's calls as steps of a run.
use Rattle.std.proofs.Common.{◌≡◌, ℕ, ◌+◌, ◌≤◌, List, [], ◌∷◌, ◌++◌, length, map, refl, sym}
use Rattle.std.proofs.Common.{ap, ◌∙◌, arith, subst, Result, Some, Ok, Err, inl, inr, Option, None}
use Rattle.std.proofs.Common.{Bool, true, false, append-nil}
use Rattle.std.specs.Prelude.{if◌then◌else◌}
use Rattle.std.specs.Borrow.{Bor}
use Rattle.std.specs.Option.{option_map}
use Rattle.std.proofs.lemmas.List.{map_push, length-map}
use Rattle.planus_read.specs.Values as value
use Rattle.planus_read.specs.Values.{Value, Plain}
use Rattle.planus_back.specs.Parts.{Part}
use Rattle.planus_back.specs.Promises.{Promise}
use Rattle.planus_write.specs.Limits.{IsWithinLimit}
use Rattle.planus_write.specs.Shared.{Contents, CacheSettings, shared_as}
use Rattle.planus_write.specs.History.{History, Entry, PutsAll, no_history, part_after}
use Rattle.planus_write.specs.State as builder
use Rattle.planus_write.specs.State.{IsHistoryOf}
use Rattle.planus_write.specs.Placing.{Outcome, PlacesEntry, Refuses, RefusedMemory, MayLackMemory, then_does}
use Rattle.planus_write.specs.Finishing.{PutsInFront, WritesFront, LendsAll}
use Rattle.planus_write.specs.Preparing.{IsPrepared, Answers, WritesText, WritesByteList, WritesList, WritesEntries}
use Rattle.planus_write.specs.Preparing.{WritesApart}
use Rattle.planus_write.specs.lemmas.ListLaws.{entries_grow, ready_list_is_put}
use Rattle.planus_write.specs.lemmas.ListLaws.{ready_list_is_refused, plain_items_are}
use Rattle.planus_write.specs.lemmas.ListLaws.{reference_items_are}
use Rattle.planus_write.specs.Items.{Item, plain_item, reference_item}
use Rattle.planus_write.specs.lemmas.PutEntries.{entries_put as puts_entries, entries_too_large}
use Rattle.planus_write.specs.Parts.{text_entry, byte_list_entry, list_entries, entries_of, Named, named_by, last_of}
use Rattle.planus_write.specs.Parts.{apart_entry}
use Rattle.planus_write.specs.declared.errors.BuildError.{BuildError}
use Rattle.planus_write.specs.declared.errors.BuildError.TheVariants.{OutOfMemory, TooLarge}
use Rattle.planus_write.specs.declared.offset.Offset.{Offset}
use Rattle.planus_write.specs.declared.offset.Text.{Text}
use Rattle.planus_write.specs.declared.offset.List.{List as ListOf}
use Rattle.planus.specs.Steps.{Step, Front, text, bytes, numbers, refs, unions, struct, plains, finish, clear}
use Rattle.planus_write.specs.Unions.{item_of, union_reach, WritesUnionVector}
use Rattle.planus_write.specs.lemmas.UnionLaws.{ready_union_vector_is_put}
use Rattle.planus_write.specs.lemmas.UnionLaws.{ready_union_vector_is_refused}
use Rattle.planus_write.specs.declared.union_offset.UnionOffset.{UnionOffset}
use Rattle.planus_write.specs.declared.union_vector_offset.UnionVectorOffset.{UnionVectorOffset}
use Rattle.std.specs.Int.{Width, byte_len, to_le_bytes}
use Rattle.std.specs.List.{list_all, AllByRecursion}
use Rattle.planus.specs.Kinds.{a_value, kind_named}
use Rattle.planus.specs.Runs.{width_of, fits_width, numbers_value, value_at, union_of, all_of}
use Rattle.planus.specs.Runs.{struct_width, struct_of, plains_value}
use Rattle.planus.specs.Runs.{AsksForMemory, ComesToRefusedEntry, StepRefused}
use Rattle.planus.specs.Runs.{Listed, Finish, StepTooLarge, Writes, value_of, values_added, finishes_added, entries_put, finish_of}
use Rattle.planus.specs.declared.replaying.faults.ReplayError.{ReplayError}
use Rattle.planus.specs.declared.replaying.faults.ReplayError.TheVariants.{OutOfMemory as ReplayOutOfMemory, TooLarge as ReplayTooLarge, BadStep}
use Rattle.planus.specs.Replays.{finish_given, place_of, replay_error}
use Rattle.planus.specs.inner.Names.{offset_named, vector_named, written_named, name_of, listed_from, IsReached}
use Rattle.planus.specs.inner.Replaying.{names, values_listed, state_with, Advanced, Stopped, Noted}
use Rattle.planus.specs.inner.Replaying.{WritesValue, AreReached}
use Rattle.planus.specs.declared.replaying.finishes.Finished.{Finished}
use Rattle.planus.specs.declared.replaying.state.ReplayState.{ReplayState}
use Rattle.planus.specs.declared.replaying.written.Written.{Written}
use Rattle.planus.proofs.Lists.{listed_push_some, listed_push_none, all_unmapped}
use Rattle.planus.proofs.Declaring.{values_reached}
use Rattle.planus.proofs.WrittenValues.{value_behind, references_behind, unions_behind}
use Rattle.planus.proofs.Naming.{took_one, took_clear, one_more}

finish_are : (old : ReplayState) (front : Front) (root distance : ℕ) (identifier : Option (List ℕ)) → value_at (values_listed old) root ≡ Some distance
    → entries_put (values_listed old) (finish front root identifier) ≡ Some (finish_of front identifier distance)
finish_are old front root distance identifier h = ap (option_map (finish_of front identifier)) h

within : (shared : Option Contents) (part : Part) (old : builder.State) (promises : List Promise) → MayLackMemory shared part old promises
    → IsWithinLimit (length old.bytes) part.size part.alignment promises
within None part old promises h = (h.0, h.1, h.2.0)
within (Some contents) part old promises h = h

asks : (entry : Entry) (got : List ℕ) (old : builder.State) (history : History) → IsHistoryOf old history → RefusedMemory entry got old history → AsksForMemory old.settings entry got history
asks entry got old history is_history refused =
    let part : Part = part_after entry got history in
    record {
      is_new = refused.is_new;
      fits = subst (λ n. IsWithinLimit n part.size part.alignment history.written.promises) (sym (ap length is_history.bytes))
          (within (shared_as old.settings entry.contents) part old history.written.promises refused.lacks);
    }

entries_refused : (entries : List Entry) (got : List ℕ) (old new : builder.State) (history : History) → WritesEntries entries got old (Err OutOfMemory) new → IsHistoryOf old history
    → ComesToRefusedEntry old.settings entries got history
entries_refused [] got old new history h is_history = tt
entries_refused (entry ∷ entries) got old new history (inl refused) is_history = inl (asks entry got old history is_history (refused.cause history is_history))
entries_refused (entry ∷ entries) got old new history (inr h) is_history =
    let first = h.2.puts history is_history in
    let rest = entries_refused entries (got ++ h.0 ∷ []) h.1 new first.0 h.3 first.2 in
    inr (h.0, first.0, first.1, subst (λ settings. ComesToRefusedEntry settings entries (got ++ h.0 ∷ []) first.0) h.2.settings rest)

all_put : (settings : CacheSettings) (entries : List Entry) (got : List ℕ) (history : History) (all : List ℕ) (after : History) → PutsAll settings entries got history all after → ComesToRefusedEntry settings entries got history
all_put settings [] got history all after h = tt
all_put settings (entry ∷ entries) got history all after h = inr (h.0, h.1, h.2, all_put settings entries (got ++ h.0 ∷ []) h.1 all after h.3)

module _ {A : Type 0} (name : A → Named) (outcome : Outcome A) (step : Step) (value : Value) (old : ReplayState)
    (is_value : value_of (values_listed old) step ≡ Some value)
    (are : entries_put (values_listed old) step ≡ Some (entries_of value))
    (writes : (answer : A) (after : builder.State) → outcome old.builder (Ok answer) after
    → (got : List ℕ) × WritesEntries (entries_of value) [] old.builder (Ok got) after × (named_by value got ≡ name answer)) where
  written : (new : ReplayState) (noted : Noted name outcome old new) (history after : History) → finishes_added step (state_with old history) after ≡ []
      → PutsAll old.builder.settings (entries_of value) [] history (writes noted.answer new.builder noted.done).0 after
      → Writes old.builder.settings (state_with old history) step (state_with new after)
  written new noted history after none puts =
      let did = writes noted.answer new.builder noted.done in
      let place : Named = written_named noted.noted in
      record {
        entries = entries_of value;
        are = are;
        got = did.0;
        puts = puts;
        listed = ap (λ n. listed_from n (names new)) noted.first
            ∙ ap (listed_from old.first) (ap (map name_of) noted.pushed ∙ map_push name_of old.offsets.items (Some noted.noted))
            ∙ listed_push_some old.first (names old) place
            ∙ ap (λ n. values_listed old ++ record { step = old.first + n; named = place } ∷ []) (length-map old.offsets.items name_of)
            ∙ ap (λ (named : Named). values_listed old ++ record { step = old.first + length old.offsets.items; named = named } ∷ []) (noted.same ∙ sym did.2)
            ∙ ap (λ (v : Option Value). values_listed old ++ values_added v (old.first + length old.offsets.items) did.0) (sym is_value);
        next = one_more old new (Some noted.noted) noted.first noted.pushed;
        finished = ap (map finish_given) noted.finished ∙ sym (append-nil (map finish_given old.finished.items))
            ∙ ap (λ (more : List Finish). map finish_given old.finished.items ++ more) (sym none);
      }

  pub runs_on : (new : ReplayState) → Noted name outcome old new → ((history after : History) → finishes_added step (state_with old history) after ≡ []) → (history : History) → IsHistoryOf old.builder history
      → (after : History) × IsHistoryOf new.builder after × Writes old.builder.settings (state_with old history) step (state_with new after)
  runs_on new noted none history is_history =
      let did = writes noted.answer new.builder noted.done in
      let put = puts_entries (entries_of value) [] old.builder did.0 new.builder history did.1 is_history in
      (put.0, put.2, written new noted history put.0 (none history put.0) put.1)

  pub settings_stay : (new : ReplayState) → Noted name outcome old new → new.builder.settings ≡ old.builder.settings
  settings_stay new noted =
      let did = writes noted.answer new.builder noted.done in
      (entries_grow (entries_of value) [] old.builder (Ok did.0) new.builder did.1).settings

  pub stops : (after : builder.State) → WritesEntries (entries_of value) [] old.builder (Err TooLarge) after → Stopped old step ReplayTooLarge
  stops after refused = λ history is_history. record { entries = entries_of value; are = are; too_large = entries_too_large (entries_of value) [] old.builder after history refused is_history }

  pub lacks : ((after : builder.State) → outcome old.builder (Err OutOfMemory) after → WritesEntries (entries_of value) [] old.builder (Err OutOfMemory) after)
      → (new : ReplayState) → WritesValue name outcome old (Err ReplayOutOfMemory) new → Stopped old step ReplayOutOfMemory
  lacks refused new (inl h) = λ history is_history. inr (
      record { entries = entries_of value; are = are; refused = entries_refused (entries_of value) [] old.builder h.0 history (refused h.0 h.1) is_history }
      )
  lacks refused new (inr h) = λ history is_history.
      let did = writes h.0 h.1 h.2 in
      let put = puts_entries (entries_of value) [] old.builder did.0 h.1 history did.1 is_history in
      inr (record { entries = entries_of value; are = are; refused = all_put old.builder.settings (entries_of value) [] history did.0 put.0 put.1 })

pub value_refused : {A : Type 0} (name : A → Named) (outcome : Outcome A) (old new : ReplayState) (error : BuildError) (after : builder.State) → outcome old.builder (Err error) after
    → WritesValue name outcome old (Err (replay_error error)) new
value_refused name outcome old new OutOfMemory after h = inl (after, h)
value_refused name outcome old new TooLarge after h = (after, h)

noted_kind : {T : Type 0} (noted : Written) (offset : Offset T) → written_named noted ≡ offset_named offset → (false ≡ false) × (Some a_value ≡ Some (kind_named (written_named noted)))
noted_kind noted offset same = (refl, ap (λ name. Some (kind_named name)) (sym same))

by_entry : {T : Type 0} (entry : Entry) (before : builder.State) (offset : Offset T) (after : builder.State) → PlacesEntry entry [] before offset.distance after
    → (got : List ℕ) × WritesEntries (entry ∷ []) [] before (Ok got) after × (record { distance = last_of got; tags = None } ≡ offset_named offset)
by_entry entry before offset after put = (offset.distance ∷ [], (offset.distance, after, put, (refl, refl)), refl)

pub text_advanced : (content : List ℕ) (old : ReplayState) (answer : Result (Unit {0}) ReplayError) (new : ReplayState)
    → WritesValue {A = Offset Text} offset_named (WritesText content) old answer new → Advanced old (text content) answer new
text_advanced content old (Ok done) new noted = record {
  taken = took_one old new (text content) (Some noted.noted) (noted_kind noted.noted noted.answer noted.same) noted.first noted.pushed;
  advances = runs_on offset_named (WritesText content) (text content) (value.text content) old refl refl (λ offset after put. by_entry (text_entry content) old.builder offset after put) new noted (λ history after. refl);
  settings = noted.done.settings;
}
text_advanced content old (Err ReplayOutOfMemory) new h =
    lacks {A = Offset Text} offset_named (WritesText content) (text content) (value.text content) old refl refl (λ offset after put. by_entry (text_entry content) old.builder offset after put) (λ after refused. inl refused) new h
text_advanced content old (Err ReplayTooLarge) new h =
    stops {A = Offset Text} offset_named (WritesText content) (text content) (value.text content) old refl refl (λ offset after put. by_entry (text_entry content) old.builder offset after put) h.0 (inl h.1)
text_advanced content old (Err (BadStep number why)) new h = absurd h

pub bytes_advanced : (content : List ℕ) (old : ReplayState) (answer : Result (Unit {0}) ReplayError) (new : ReplayState)
    → WritesValue {A = Offset (ListOf ℕ)} offset_named (WritesByteList content) old answer new → Advanced old (bytes content) answer new
bytes_advanced content old (Ok done) new noted = record {
  taken = took_one old new (bytes content) (Some noted.noted) (noted_kind noted.noted noted.answer noted.same) noted.first noted.pushed;
  advances = runs_on offset_named (WritesByteList content) (bytes content) (value.byte_list content) old refl refl (λ offset after put. by_entry (byte_list_entry content) old.builder offset after put) new noted (λ history after. refl);
  settings = noted.done.settings;
}
bytes_advanced content old (Err ReplayOutOfMemory) new h =
    lacks {A = Offset (ListOf ℕ)} offset_named (WritesByteList content) (bytes content) (value.byte_list content) old refl refl (λ offset after put. by_entry (byte_list_entry content) old.builder offset after put) (λ after refused. inl refused) new h
bytes_advanced content old (Err ReplayTooLarge) new h =
    stops {A = Offset (ListOf ℕ)} offset_named (WritesByteList content) (bytes content) (value.byte_list content) old refl refl (λ offset after put. by_entry (byte_list_entry content) old.builder offset after put) h.0 (inl h.1)
bytes_advanced content old (Err (BadStep number why)) new h = absurd h

module _ (alignment : ℕ) (content : List ℕ) (item : Plain) (made : struct_of (struct_width alignment) content ≡ Some item) (old : ReplayState) where
  struct_value_is : value_of (values_listed old) (struct alignment content) ≡ Some (value.apart item)
  struct_value_is = ap (option_map value.apart) made

  struct_are : entries_put (values_listed old) (struct alignment content) ≡ Some (entries_of (value.apart item))
  struct_are = ap (option_map entries_of) struct_value_is

  pub struct_advanced : (T : Type 0) (answer : Result (Unit {0}) ReplayError) (new : ReplayState)
      → WritesValue {A = Offset T} offset_named (WritesApart item) old answer new → Advanced old (struct alignment content) answer new
  struct_advanced T (Ok done) new noted = record {
    taken = took_one old new (struct alignment content) (Some noted.noted) (noted_kind noted.noted noted.answer noted.same) noted.first noted.pushed;
    advances = runs_on offset_named (WritesApart item) (struct alignment content) (value.apart item) old struct_value_is struct_are (λ offset after put. by_entry (apart_entry item) old.builder offset after put) new noted (λ history after. refl);
    settings = noted.done.settings;
  }
  struct_advanced T (Err ReplayOutOfMemory) new h =
      lacks {A = Offset T} offset_named (WritesApart item) (struct alignment content) (value.apart item) old struct_value_is struct_are (λ offset after put. by_entry (apart_entry item) old.builder offset after put) (λ after refused. inl refused) new h
  struct_advanced T (Err ReplayTooLarge) new h =
      stops {A = Offset T} offset_named (WritesApart item) (struct alignment content) (value.apart item) old struct_value_is struct_are (λ offset after put. by_entry (apart_entry item) old.builder offset after put) h.0 (inl h.1)
  struct_advanced T (Err (BadStep number why)) new h = absurd h

module _ {A : Type 0} (encoding : A → Item) (size alignment : ℕ) (xs : List A) (value : Value) (old : ReplayState)
    (entries : list_entries size alignment (map encoding xs) ≡ entries_of value) (one : (got : List ℕ) → named_by value got ≡ record { distance = last_of got; tags = None }) where
  list_writes : {T : Type 0} (offset : Offset T) (after : builder.State) → WritesList Answers encoding size alignment xs old.builder (Ok offset) after
      → (got : List ℕ) × WritesEntries (entries_of value) [] old.builder (Ok got) after × (named_by value got ≡ offset_named offset)
  list_writes offset after done =
      let put = ready_list_is_put encoding size alignment xs old.builder offset after done in (
        put.0,
        subst (λ (es : List Entry). WritesEntries es [] old.builder (Ok put.0) after) entries put.1,
        one put.0 ∙ ap (λ d. record { distance = d; tags = None }) (sym put.2),
      )

  list_refused : (T : Type 0) (error : BuildError) (after : builder.State) → WritesList {T = T} Answers encoding size alignment xs old.builder (Err error) after
      → WritesEntries (entries_of value) [] old.builder (Err error) after
  list_refused T error after refused =
      subst (λ (es : List Entry). WritesEntries es [] old.builder (Err error) after) entries
      (ready_list_is_refused T encoding size alignment xs old.builder error after refused)

module _ (width : ℕ) (w : Width) (items : List ℕ) (known : width_of width ≡ Some w) (fit : list_all (fits_width w) items ≡ true) (old : ReplayState) where
  abbrev number_list : Value
  number_list = value.plain_list (byte_len w) (byte_len w) (map (to_le_bytes w) items)

  abbrev encoding_number : ℕ → Item
  encoding_number = λ number. plain_item (to_le_bytes w number)

  numbers_value_is : value_of (values_listed old) (numbers width items) ≡ Some number_list
  numbers_value_is = ap (λ k. numbers_value k items) known ∙ ap (λ (all : Bool). if all then Some number_list else None) fit

  numbers_are : entries_put (values_listed old) (numbers width items) ≡ Some (entries_of number_list)
  numbers_are = ap (option_map entries_of) numbers_value_is

  numbers_entries : list_entries (byte_len w) (byte_len w) (map encoding_number items) ≡ entries_of number_list
  numbers_entries = ap (list_entries (byte_len w) (byte_len w)) (plain_items_are (to_le_bytes w) items)

  pub numbers_advanced : (T : Type 0) (answer : Result (Unit {0}) ReplayError) (new : ReplayState)
      → WritesValue {A = Offset T} offset_named (WritesList Answers encoding_number (byte_len w) (byte_len w) items) old answer new → Advanced old (numbers width items) answer new
  numbers_advanced T (Ok done) new noted = record {
    taken = took_one old new (numbers width items) (Some noted.noted) (noted_kind noted.noted noted.answer noted.same) noted.first noted.pushed;
    advances = runs_on offset_named (WritesList Answers encoding_number (byte_len w) (byte_len w) items) (numbers width items) number_list old numbers_value_is numbers_are
        (list_writes encoding_number (byte_len w) (byte_len w) items number_list old numbers_entries (λ got. refl)) new noted (λ history after. refl);
    settings = settings_stay offset_named (WritesList Answers encoding_number (byte_len w) (byte_len w) items) (numbers width items) number_list old numbers_value_is numbers_are
        (list_writes encoding_number (byte_len w) (byte_len w) items number_list old numbers_entries (λ got. refl)) new noted;
  }
  numbers_advanced T (Err ReplayOutOfMemory) new h =
      lacks {A = Offset T} offset_named (WritesList Answers encoding_number (byte_len w) (byte_len w) items) (numbers width items) number_list old numbers_value_is numbers_are
      (list_writes encoding_number (byte_len w) (byte_len w) items number_list old numbers_entries (λ got. refl))
      (list_refused encoding_number (byte_len w) (byte_len w) items number_list old numbers_entries (λ got. refl) T OutOfMemory) new h
  numbers_advanced T (Err ReplayTooLarge) new h =
      stops {A = Offset T} offset_named (WritesList Answers encoding_number (byte_len w) (byte_len w) items) (numbers width items) number_list old numbers_value_is numbers_are
      (list_writes encoding_number (byte_len w) (byte_len w) items number_list old numbers_entries (λ got. refl)) h.0
      (list_refused encoding_number (byte_len w) (byte_len w) items number_list old numbers_entries (λ got. refl) T TooLarge h.0 h.1)
  numbers_advanced T (Err (BadStep number why)) new h = absurd h

module _ (alignment size : ℕ) (content : List ℕ) (each aligned : ℕ) (xs : List (List ℕ)) (made : plains_value (struct_width alignment) size content ≡ Some (value.plain_list each aligned xs)) (old : ReplayState) where
  abbrev item_list : Value
  item_list = value.plain_list each aligned xs

  plains_are : entries_put (values_listed old) (plains alignment size content) ≡ Some (entries_of item_list)
  plains_are = ap (option_map entries_of) made

  pub plains_advanced : (T : Type 0) (answer : Result (Unit {0}) ReplayError) (new : ReplayState)
      → WritesValue {A = Offset T} offset_named (WritesList Answers plain_item each aligned xs) old answer new → Advanced old (plains alignment size content) answer new
  plains_advanced T (Ok done) new noted = record {
    taken = took_one old new (plains alignment size content) (Some noted.noted) (noted_kind noted.noted noted.answer noted.same) noted.first noted.pushed;
    advances = runs_on offset_named (WritesList Answers plain_item each aligned xs) (plains alignment size content) item_list old made plains_are
        (list_writes plain_item each aligned xs item_list old refl (λ got. refl)) new noted (λ history after. refl);
    settings = settings_stay offset_named (WritesList Answers plain_item each aligned xs) (plains alignment size content) item_list old made plains_are
        (list_writes plain_item each aligned xs item_list old refl (λ got. refl)) new noted;
  }
  plains_advanced T (Err ReplayOutOfMemory) new h =
      lacks {A = Offset T} offset_named (WritesList Answers plain_item each aligned xs) (plains alignment size content) item_list old made plains_are
      (list_writes plain_item each aligned xs item_list old refl (λ got. refl))
      (list_refused plain_item each aligned xs item_list old refl (λ got. refl) T OutOfMemory) new h
  plains_advanced T (Err ReplayTooLarge) new h =
      stops {A = Offset T} offset_named (WritesList Answers plain_item each aligned xs) (plains alignment size content) item_list old made plains_are
      (list_writes plain_item each aligned xs item_list old refl (λ got. refl)) h.0
      (list_refused plain_item each aligned xs item_list old refl (λ got. refl) T TooLarge h.0 h.1)
  plains_advanced T (Err (BadStep number why)) new h = absurd h

module _ (steps : List ℕ) (offsets : List (Offset (Unit {0}))) (old : ReplayState)
    (found : all_of (value_at (values_listed old)) steps ≡ Some (map (λ (o : Offset (Unit {0})). o.distance) offsets)) where
  abbrev reference_list : Value
  reference_list = value.reference_list (map (λ (o : Offset (Unit {0})). o.distance) offsets)

  abbrev encoding_offset : Offset (Unit {0}) → Item
  encoding_offset = λ offset. reference_item offset.distance

  refs_value_is : value_of (values_listed old) (refs steps) ≡ Some reference_list
  refs_value_is = ap (option_map value.reference_list) found

  refs_are : entries_put (values_listed old) (refs steps) ≡ Some (entries_of reference_list)
  refs_are = ap (option_map entries_of) refs_value_is

  refs_entries : list_entries 4 4 (map encoding_offset offsets) ≡ entries_of reference_list
  refs_entries = ap (list_entries 4 4) (reference_items_are (λ (o : Offset (Unit {0})). o.distance) offsets)

  pub refs_advanced : (T : Type 0) (answer : Result (Unit {0}) ReplayError) (new : ReplayState)
      → WritesValue {A = Offset T} offset_named (WritesList Answers encoding_offset 4 4 offsets) old answer new → Advanced old (refs steps) answer new
  refs_advanced T (Ok done) new noted = record {
    taken = took_one old new (refs steps) (Some noted.noted) (noted_kind noted.noted noted.answer noted.same) noted.first noted.pushed;
    advances = runs_on offset_named (WritesList Answers encoding_offset 4 4 offsets) (refs steps) reference_list old refs_value_is refs_are
        (list_writes encoding_offset 4 4 offsets reference_list old refs_entries (λ got. refl)) new noted (λ history after. refl);
    settings = settings_stay offset_named (WritesList Answers encoding_offset 4 4 offsets) (refs steps) reference_list old refs_value_is refs_are
        (list_writes encoding_offset 4 4 offsets reference_list old refs_entries (λ got. refl)) new noted;
  }
  refs_advanced T (Err ReplayOutOfMemory) new h = λ history is_history. inl refl
  refs_advanced T (Err ReplayTooLarge) new h =
      stops {A = Offset T} offset_named (WritesList Answers encoding_offset 4 4 offsets) (refs steps) reference_list old refs_value_is refs_are
      (list_writes encoding_offset 4 4 offsets reference_list old refs_entries (λ got. refl)) h.0
      (list_refused encoding_offset 4 4 offsets reference_list old refs_entries (λ got. refl) T TooLarge h.0 h.1)
  refs_advanced T (Err (BadStep number why)) new h = absurd h

pub found_reached : (old : ReplayState) → AreReached old → (steps : List ℕ) (offsets : List (Offset (Unit {0})))
    → all_of (value_at (values_listed old)) steps ≡ Some (map (λ (o : Offset (Unit {0})). o.distance) offsets)
    → AllByRecursion (λ (o : Offset (Unit {0})). o.distance ≤ length old.builder.bytes) offsets
found_reached old reached steps offsets h =
    all_unmapped (λ distance. distance ≤ length old.builder.bytes) (λ (o : Offset (Unit {0})). o.distance) offsets
    (references_behind (λ one. IsReached (length old.builder.bytes) one.named) (length old.builder.bytes) (λ one there. there) (values_listed old) (values_reached old reached) steps
    (map (λ (o : Offset (Unit {0})). o.distance) offsets) h)

pub value_inside : (old : ReplayState) → AreReached old → (step distance : ℕ) → value_at (values_listed old) step ≡ Some distance → distance ≤ length old.builder.bytes
value_inside old reached step distance h =
    value_behind (λ one. IsReached (length old.builder.bytes) one.named) (length old.builder.bytes) (λ one there. there) (values_listed old) (values_reached old reached) step distance h

module _ (items : List (ℕ × ℕ)) (offsets : List (UnionOffset (Unit {0}))) (old : ReplayState)
    (found : all_of (union_of (values_listed old)) items ≡ Some (map item_of offsets)) where
  abbrev unions_value : Value
  unions_value = value.union_vector (map item_of offsets)

  unions_value_is : value_of (values_listed old) (unions items) ≡ Some unions_value
  unions_value_is = ap (option_map value.union_vector) found

  unions_are : entries_put (values_listed old) (unions items) ≡ Some (entries_of unions_value)
  unions_are = ap (option_map entries_of) unions_value_is

  unions_write : (vector : UnionVectorOffset (Unit {0})) (after : builder.State) → WritesUnionVector Answers offsets old.builder (Ok vector) after
      → (got : List ℕ) × WritesEntries (entries_of unions_value) [] old.builder (Ok got) after × (named_by unions_value got ≡ vector_named vector)
  unions_write vector after done =
      let put = ready_union_vector_is_put offsets old.builder vector after done in (
        put.0,
        put.1,
        ap (λ d. record { distance = d; tags = Some (last_of put.0) }) (sym put.2) ∙ ap (λ d. record { distance = vector.values.distance; tags = Some d }) (sym put.3),
      )

  unions_refused : (after : builder.State) → WritesUnionVector {T = Unit {0}} Answers offsets old.builder (Err TooLarge) after
      → WritesEntries (entries_of unions_value) [] old.builder (Err TooLarge) after
  unions_refused after refused =
      elim (ready_union_vector_is_refused (Unit {0}) offsets old.builder TooLarge after refused) as (λ _. WritesEntries (entries_of unions_value) [] old.builder (Err TooLarge) after) [
        | inl e ↦ (cc)
        | inr put ↦ put
      ]

  pub unions_advanced : (answer : Result (Unit {0}) ReplayError) (new : ReplayState)
      → WritesValue vector_named (WritesUnionVector {T = Unit {0}} Answers offsets) old answer new → Advanced old (unions items) answer new
  unions_advanced (Ok done) new noted = record {
    taken = took_one old new (unions items) (Some noted.noted) (refl, ap (λ name. Some (kind_named name)) (sym noted.same)) noted.first noted.pushed;
    advances = runs_on vector_named (WritesUnionVector Answers offsets) (unions items) unions_value old unions_value_is unions_are unions_write new noted (λ history after. refl);
    settings = settings_stay vector_named (WritesUnionVector Answers offsets) (unions items) unions_value old unions_value_is unions_are unions_write new noted;
  }
  unions_advanced (Err ReplayOutOfMemory) new h = λ history is_history. inl refl
  unions_advanced (Err ReplayTooLarge) new h =
      stops vector_named (WritesUnionVector Answers offsets) (unions items) unions_value old unions_value_is unions_are unions_write h.0 (unions_refused h.0 h.1)
  unions_advanced (Err (BadStep number why)) new h = absurd h

pub unions_reached : (old : ReplayState) → AreReached old → (items : List (ℕ × ℕ)) (offsets : List (UnionOffset (Unit {0})))
    → all_of (union_of (values_listed old)) items ≡ Some (map item_of offsets)
    → AllByRecursion (λ (u : UnionOffset (Unit {0})). union_reach u ≤ length old.builder.bytes) offsets
unions_reached old reached items offsets h =
    all_unmapped (λ (item : ℕ × ℕ). item.1 ≤ length old.builder.bytes) item_of offsets
    (unions_behind (λ one. IsReached (length old.builder.bytes) one.named) (length old.builder.bytes) (λ one there. there) (values_listed old) (values_reached old reached) items (map item_of offsets) h)

abbrev pub FrontLeaves : Offset (Unit {0}) → (ℕ → Entry) → builder.State → Result (Bor (List ℕ)) BuildError → builder.State → Type 0
FrontLeaves offset entry = LendsAll (then_does (λ before prepared after. IsPrepared offset before prepared after) (λ root. WritesFront (entry root.distance)))

pub offset_finished : (offset : Offset (Unit {0})) (entry : ℕ → Entry) (old new : builder.State) (answer : Result (Bor (List ℕ)) BuildError) (lent : Bor (List ℕ)) → answer ≡ Ok lent
    → FrontLeaves offset entry old answer new → PutsInFront (entry offset.distance) old (length new.bytes) new × (lent.now ≡ new.bytes)
offset_finished offset entry old new answer lent ok encoding =
    let h = subst (λ a. FrontLeaves offset entry old a new) ok encoding in
    let same : h.0.0 ≡ offset = (let e : Ok h.0.0 ≡ Ok offset = h.0.2.0 in cc) in
    (subst (λ before. PutsInFront (entry offset.distance) before (length new.bytes) new) h.0.2.1 (subst (λ (o : Offset (Unit {0})). PutsInFront (entry o.distance) h.0.1 (length new.bytes) new) same h.0.3), h.1)

module _ (front : Front) (root : ℕ) (identifier : Option (List ℕ)) (entry : ℕ → Entry) (is_entry : (distance : ℕ) → finish_of front identifier distance ≡ entry distance ∷ []) where
  pub finish_advances : (distance : ℕ) (old new : ReplayState) (given : Finished) (place : ℕ) → value_at (values_listed old) root ≡ Some distance
      → PutsInFront (entry distance) old.builder place new.builder → new.first ≡ old.first → new.offsets.items ≡ old.offsets.items ++ None ∷ [] → new.finished.items ≡ old.finished.items ++ given ∷ []
      → given.bytes.items ≡ new.builder.bytes → map place_of given.places.items ≡ values_listed old → Advanced old (finish front root identifier) (Ok tt) new
  finish_advances distance old new given place found finishes first pushed gave whole listed_there = record {
    taken = took_one old new (finish front root identifier) None (refl, refl) first pushed;
    advances = λ history is_history.
        let after = finishes.puts.puts history is_history in
        let all : given.bytes.items ≡ after.0.written.bytes = whole ∙ sym after.2.bytes in (
          after.0,
          after.2,
          record {
            entries = entry distance ∷ [];
            are = finish_are old front root distance identifier found ∙ ap Some (is_entry distance);
            got = place ∷ [];
            puts = (place, after.0, after.1, (refl, refl));
            listed = ap (λ n. listed_from n (names new)) first ∙ ap (listed_from old.first) (ap (map name_of) pushed ∙ map_push name_of old.offsets.items None)
                ∙ listed_push_none old.first (names old) ∙ sym (append-nil (values_listed old));
            next = one_more old new None first pushed;
            finished = ap (map finish_given) gave ∙ map_push finish_given old.finished.items given
                ∙ ap (λ (p : List ℕ × List Listed). map finish_given old.finished.items ++ record { bytes = p.0; places = p.1 } ∷ [])
                (let e : (given.bytes.items, map place_of given.places.items) ≡ (after.0.written.bytes, values_listed old) = rw (all, listed_there) refl in e);
          },
        );
    settings = finishes.puts.settings;
  }

  pub finish_not_given : (old : ReplayState) (offset : Offset (Unit {0})) → value_at (values_listed old) root ≡ Some offset.distance
      → (answer : Result (Bor (List ℕ)) BuildError) (lent : Bor (List ℕ)) (new : builder.State) → answer ≡ Ok lent
      → FrontLeaves offset entry old.builder answer new → Stopped old (finish front root identifier) ReplayOutOfMemory
  finish_not_given old offset found answer lent new ok encoding = λ history is_history.
      let done = offset_finished offset entry old.builder new answer lent ok encoding in
      let after = done.0.puts.puts history is_history in
      inr (
      record {
        entries = entry offset.distance ∷ [];
        are = finish_are old front root offset.distance identifier found ∙ ap Some (is_entry offset.distance);
        refused = inr (length new.bytes, after.0, after.1, tt);
      }
      )

  pub finish_stopped : (old : ReplayState) (offset : Offset (Unit {0})) → value_at (values_listed old) root ≡ Some offset.distance
      → (answer : Result (Bor (List ℕ)) BuildError) (error : BuildError) (new : builder.State) → answer ≡ Err error
      → FrontLeaves offset entry old.builder answer new → Stopped old (finish front root identifier) (replay_error error)
  finish_stopped old offset found answer error new refused encoding = by_error error (subst (λ a. FrontLeaves offset entry old.builder a new) refused encoding)
    where
      by_error : (error : BuildError) → FrontLeaves offset entry old.builder (Err error) new → Stopped old (finish front root identifier) (replay_error error)
      by_error OutOfMemory h = λ history is_history. elim h as (λ _. StepRefused old.builder.settings (state_with old history) (finish front root identifier)) [
        | inl none ↦ (let e : Err OutOfMemory ≡ Ok offset = none.0 in cc)
        | inr put ↦
            let same : put.0 ≡ offset = (let e : Ok put.0 ≡ Ok offset = put.2.0 in cc) in
            let refuses : Refuses (entry offset.distance) [] old.builder OutOfMemory new
            = subst (λ (b : builder.State). Refuses (entry offset.distance) [] b OutOfMemory new) put.2.1
            (subst (λ (o : Offset (Unit {0})). Refuses (entry o.distance) [] put.1 OutOfMemory new) same put.3) in
            inr (
            record {
              entries = entry offset.distance ∷ [];
              are = finish_are old front root offset.distance identifier found ∙ ap Some (is_entry offset.distance);
              refused = inl (asks (entry offset.distance) [] old.builder history is_history (refuses.cause history is_history));
            }
            )
      ]
      by_error TooLarge h = λ history is_history. elim h as (λ _. StepTooLarge old.builder.settings (state_with old history) (finish front root identifier)) [
        | inl none ↦ (let e : Err TooLarge ≡ Ok offset = none.0 in cc)
        | inr put ↦
            let same : put.0 ≡ offset = (let e : Ok put.0 ≡ Ok offset = put.2.0 in cc) in
            let refuses : Refuses (entry offset.distance) [] old.builder TooLarge new
            = subst (λ (b : builder.State). Refuses (entry offset.distance) [] b TooLarge new) put.2.1
            (subst (λ (o : Offset (Unit {0})). Refuses (entry o.distance) [] put.1 TooLarge new) same put.3) in
            record { entries = entry offset.distance ∷ []; are = finish_are old front root offset.distance identifier found ∙ ap Some (is_entry offset.distance); too_large = inl (refuses.cause history is_history) }
      ]

pub clear_advances : (old new : ReplayState) → IsHistoryOf new.builder no_history → new.builder.settings ≡ old.builder.settings → new.first ≡ old.first + length old.offsets.items + 1 → new.offsets.items ≡ []
    → new.finished ≡ old.finished → Advanced old clear (Ok tt) new
clear_advances old new is_history settings first none same = record {
  taken = took_clear old new first none;
  advances = λ history before. (no_history, is_history, (let next : new.first + 0 ≡ old.first + length old.offsets.items + 1 = omega (arith, first) in rw (none, same, next) refl));
  settings = settings;
}
