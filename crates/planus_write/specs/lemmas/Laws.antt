-- The laws of what can be written.
use Rattle.std.specs.Prelude.{◌≡◌, ℕ, ◌+◌, ◌≤◌, List, [], ◌∷◌, ◌++◌, length, replicate, Option}
use Rattle.std.specs.Prelude.{Some, None, Result, Ok, Err, ⊤}
use Rattle.std.proofs.Common.{ap, subst, sym, refl, ◌∙◌, arith, append_assoc, length-append, lit<}
use Rattle.std.proofs.Math.Nat.{pow-le-pow_right}
use Rattle.planus_back.specs.Parts.{Part}
use Rattle.planus_back.specs.Padding.{promise_of}
use Rattle.planus_write.specs.Shared.{Contents, Cached, CacheSettings, and_cached, shared_as}
use Rattle.planus_write.specs.History.{History, Entry, Adds, PutsAfter, Puts, found_before}
use Rattle.planus_write.specs.History.{part_after}
use Rattle.planus_write.specs.State.{State, IsHistoryOf, Extends, Grows}
use Rattle.planus_write.specs.Placing.{Outcome, PlacesEntry, WritesEntry, LeftAsItWas}
use Rattle.planus_read.specs.Plain.{IsLayout}
use Rattle.planus_write.specs.Preparing.{IsLawful, Answers, AsOffset, IsPrepared}
use Rattle.planus_write.specs.declared.errors.BuildError.{BuildError}
use Rattle.planus_write.specs.declared.errors.BuildError.TheVariants.{OutOfMemory, TooLarge}
use Rattle.planus_write.specs.declared.offset.Offset.{Offset}

pub extends_on : (before between after : History) → Extends before between → Extends between after
    → Extends before after
extends_on before between after first second = record {
  bytes = (
    second.bytes.0 ++ first.bytes.0,
    second.bytes.1 ∙ ap (λ bytes. second.bytes.0 ++ bytes) first.bytes.1
        ∙ sym (append_assoc second.bytes.0 first.bytes.0 before.written.bytes),
  );
  promises = (
    second.promises.0 ++ first.promises.0,
    second.promises.1 ∙ ap (λ promises. second.promises.0 ++ promises) first.promises.1
        ∙ sym (append_assoc second.promises.0 first.promises.0 before.written.promises),
  );
  cached = (
    second.cached.0 ++ first.cached.0,
    second.cached.1 ∙ ap (λ cached. second.cached.0 ++ cached) first.cached.1
        ∙ sym (append_assoc second.cached.0 first.cached.0 before.cached),
  );
}

pub extends_itself : (history : History) → Extends history history
extends_itself history = record { bytes = ([], refl); promises = ([], refl); cached = ([], refl) }

pub unchanged_grows : (old new : State) → new ≡ old → Grows old new
unchanged_grows old new same = record {
  bytes = ([], ap (λ state. state.bytes) same);
  history = λ history is_history. (
    history,
    subst (λ state. IsHistoryOf state history)
        (sym same) is_history,
    extends_itself history,
  );
  settings = ap (λ state. state.settings) same;
}

pub roomier_history : (old new : State) (history : History) → new ≡ record old { room = new.room }
    → IsHistoryOf old history → IsHistoryOf new history
roomier_history old new history same is_history =
    subst (λ state. IsHistoryOf state history) (sym same)
    (record {
      bytes = is_history.bytes;
      described = is_history.described;
      cached = λ kind. record {
        fits = (is_history.cached kind).fits;
        finds = (is_history.cached kind).finds;
      };
      kept = is_history.kept;
    })

roomier_grows : (old new : State) → new ≡ record old { room = new.room } → Grows old new
roomier_grows old new same = record {
  bytes = ([], ap (λ state. state.bytes) same);
  history = λ history is_history. (
    history,
    roomier_history old new history same is_history,
    extends_itself history,
  );
  settings = ap (λ state. state.settings) same;
}

pub left_grows : (error : BuildError) (shared : Option Contents) (old new : State)
    → LeftAsItWas error shared old new → Grows old new
left_grows OutOfMemory (Some contents) old new left = roomier_grows old new left.1
left_grows OutOfMemory None old new left = unchanged_grows old new left
left_grows TooLarge shared old new left = unchanged_grows old new left

cached_more : (shared : Option Contents) (distance : ℕ) (before after : List Cached)
    → after ≡ and_cached shared distance before
    → (more : List Cached) × (after ≡ more ++ before)
cached_more None distance before after same = ([], same)
cached_more (Some contents) distance before after same =
    (record { contents = contents; distance = distance } ∷ [], same)

pub added_extends : (part : Part) (shared : Option Contents) (before : History) (distance : ℕ)
    (after : History)
    → Adds part shared before distance after → Extends before after
added_extends part shared before distance after adds = record {
  bytes = (part.bytes_at adds.placed.place ++ replicate adds.placed.padding 0, adds.placed.bytes);
  promises = (promise_of adds.placed.place part.alignment ∷ [], adds.placed.promises);
  cached = cached_more shared distance before.cached after.cached adds.cached;
}

put_after_extends : (earlier : Option ℕ) (part : Part) (shared : Option Contents) (before : History)
    (distance : ℕ) (after : History)
    → PutsAfter earlier part shared before distance after → Extends before after
put_after_extends (Some d) part shared before distance after put =
    subst (Extends before) (sym put.1) (extends_itself before)
put_after_extends None part shared before distance after put =
    added_extends part shared before distance after put

pub put_extends : (settings : CacheSettings) (entry : Entry) (got : List ℕ) (before : History)
    (distance : ℕ) (after : History)
    → Puts settings entry got before distance after → Extends before after
put_extends settings entry got before distance after put =
    put_after_extends (found_before settings entry before) (part_after entry got before)
    (shared_as settings entry.contents)
    before distance after put

pub entry_grows : (entry : Entry) (got : List ℕ) (old : State) (distance : ℕ) (new : State)
    → PlacesEntry entry got old distance new → Grows old new
entry_grows entry got old distance new put = record {
  bytes = put.grows;
  history = λ history is_history.
      let after = put.puts history is_history in
      (after.0, after.2, put_extends old.settings entry got history distance after.0 after.1);
  settings = put.settings;
}

pub grows_on : (old mid new : State) → Grows old mid → Grows mid new → Grows old new
grows_on old mid new first second = record {
  bytes = (
    second.bytes.0 ++ first.bytes.0,
    second.bytes.1 ∙ ap (λ bytes. second.bytes.0 ++ bytes) first.bytes.1
        ∙ sym (append_assoc second.bytes.0 first.bytes.0 old.bytes),
  );
  history = λ history is_history.
      let between = first.history history is_history in
      let after = second.history between.0 between.1 in
      (after.0, after.1, extends_on history between.0 after.0 between.2 after.2);
  settings = second.settings ∙ first.settings;
}

pub reached_still : (distance : ℕ) (old new : State) → Grows old new → distance ≤ length old.bytes
    → distance ≤ length new.bytes
reached_still distance old new grows reached =
    let e : length new.bytes ≡ length grows.bytes.0 + length old.bytes
    = ap length grows.bytes.1 ∙ length-append grows.bytes.0 old.bytes in
    omega (arith, e, reached)

pub writes_entry_grows : (entry : Entry) (got : List ℕ) (old : State) (answer : Result ℕ BuildError)
    (new : State) → WritesEntry entry got old answer new → Grows old new
writes_entry_grows entry got old (Ok distance) new done =
    entry_grows entry got old distance new done
writes_entry_grows entry got old (Err error) new done =
    left_grows error (shared_as old.settings entry.contents) old new done.unchanged

pub as_offset_grows : {T : Type 0} (writes : Outcome ℕ) (old : State)
    → ((answer : Result ℕ BuildError) (new : State) → writes old answer new → Grows old new)
    → (answer : Result (Offset T) BuildError) (new : State) → AsOffset writes old answer new
    → Grows old new
as_offset_grows writes old each (Ok offset) new done = each (Ok offset.distance) new done
as_offset_grows writes old each (Err error) new done = each (Err error) new done

pub written_is_lawful : {A : Type 0} (reach : A → ℕ)
    → IsLawful {X = A} (λ a old. reach a ≤ length old.bytes) Answers reach
written_is_lawful {A} reach = record {
  grows = λ a old answer new may done. unchanged_grows old new done.1;
  reaches = λ a old answer new may done.
      let same : answer ≡ a = cc in
      subst (λ (state : State). reach answer ≤ length state.bytes) (sym done.1)
      (subst (λ (b : A). reach b ≤ length old.bytes) (sym same) may);
  stays = λ a old new grows may. reached_still (reach a) old new grows may;
}

pub offset_is_lawful : {T : Type 0}
    → IsLawful {X = Offset T} (λ offset old. offset.distance ≤ length old.bytes) IsPrepared
    (λ offset. offset.distance)
offset_is_lawful {T} = written_is_lawful (λ (offset : Offset T). offset.distance)

pub entry_is_lawful : {X T : Type 0} (entry : X → Entry)
    → IsLawful {X = X} {A = Offset T} (λ x old. ⊤)
    (λ x old answer new. AsOffset (WritesEntry (entry x) []) old answer new)
    (λ offset. offset.distance)
entry_is_lawful entry = record {
  grows = λ x old answer new may done.
      as_offset_grows (WritesEntry (entry x) []) old (writes_entry_grows (entry x) [] old) answer
      new done;
  reaches = λ x old answer new may done. done.reached;
  stays = λ x old new grows may. tt;
}

pub ready_is_lawful : {A : Type 0} → IsLawful {X = A} (λ x old. ⊤) Answers (λ answer. 0)
ready_is_lawful {A} = record {
  grows = λ x old answer new may done. unchanged_grows old new done.1;
  reaches = λ x old answer new may done. omega arith;
  stays = λ x old new grows may. tt;
}

pub alignment_is_small : (size alignment : ℕ) → IsLayout size alignment → alignment ≤ 1073741824
alignment_is_small size alignment layout =
    subst (λ n. n ≤ 1073741824) (sym layout.power.2)
    (pow-le-pow_right {n = 2} (lit< tt) layout.power.1)

pub lawful_of : {X Y A : Type 0} {may : X → State → Type 0} {outcome : X → Outcome A}
    {reach : A → ℕ}
    (of : Y → X) → IsLawful may outcome reach
    → IsLawful (λ y old. may (of y) old) (λ y old answer new. outcome (of y) old answer new) reach
lawful_of of lawful = record {
  grows = λ y. lawful.grows (of y);
  reaches = λ y. lawful.reaches (of y);
  stays = λ y. lawful.stays (of y);
}
