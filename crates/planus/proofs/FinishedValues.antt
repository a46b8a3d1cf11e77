-- What is stored is encoded in a finish.
use Rattle.std.proofs.Common.{◌≡◌, ℕ, ◌+◌, ◌*◌, ◌≤◌, List, [], ◌++◌, length, drop, replicate}
use Rattle.std.proofs.Common.{refl, sym, subst, ap, ◌∙◌, arith, append_assoc, length-append, None, Ok}
use Rattle.std.proofs.lemmas.List.{drop-append-le}
use Rattle.planus_back.specs.Promises.{Keep}
use Rattle.planus_read.specs.Aligned.{AlignedAt}
use Rattle.planus_read.specs.Bytes.{position_of}
use Rattle.planus_read.specs.Moves.{moved}
use Rattle.planus_read.specs.Stands.{Position, Stands, at, at_both}
use Rattle.planus_read.specs.Values.{Value}
use Rattle.planus_read.proofs.Moves.{keeps_standing}
use Rattle.planus_write.specs.Finishing.{PutsInFront}
use Rattle.planus_write.specs.History.{History, Adds}
use Rattle.planus_write.specs.Kept.{IsKept}
use Rattle.planus_write.specs.Parts.{front_entry, front_part, identifier_bytes, root_words, sized_words}
use Rattle.planus_write.specs.Parts.{Named, position_in}
use Rattle.planus_write.specs.Placing.{Outcome}
use Rattle.planus_write.specs.Preparing.{IsLawful}
use Rattle.planus_write.specs.State.{Extends, State, IsHistoryOf}
use Rattle.planus_write.specs.declared.offset.Offset.{Offset}
use Rattle.planus_write.specs.lemmas.Laws.{put_extends}
use Rattle.planus_write.specs.lemmas.Staying.{kept_stays}
use Rattle.planus.specs.KeptValues.{StandsFromEnd, ValuesStandIn, ValuesStandOn, ValuesStandFinished}
use Rattle.planus.specs.KeptValues.{FinishesKeepValues, SizedFinishesKeepValues}
use Rattle.planus.proofs.FinishedTables.{four_inside}

stand_behind : (front old B : List ℕ) → B ≡ front ++ old → (value : Value) (distance : ℕ)
    → distance ≤ length old → StandsFromEnd old value distance → StandsFromEnd B value distance
stand_behind front old B is value distance reached stands =
    let long : length B ≡ length front + length old = ap length is ∙ length-append front old in
    let place : length front + position_of old distance ≡ position_of B distance =
    omega (arith, long, reached) in
    subst (λ k. Stands B (at k) value) place
    (subst (λ bytes. Stands bytes (at (length front + position_of old distance)) value) (sym is)
    (keeps_standing front old (at (position_of old distance)) value stands))

pub values_stand_on : ValuesStandOn
values_stand_on old new grows = stand_behind grows.bytes.0 old.bytes new.bytes grows.bytes.1

-- what stands where a later builder's values do
pub values_stand_before : (before builder : State) (history after : History)
    → IsHistoryOf before history → IsHistoryOf builder after → Extends history after → (B : List ℕ)
    → ValuesStandIn B builder → ValuesStandIn B before
values_stand_before before builder history after old new extends B stand value distance reached stands =
    let is : builder.bytes ≡ extends.bytes.0 ++ before.bytes =
    sym new.bytes ∙ extends.bytes.1 ∙ ap (λ bytes. extends.bytes.0 ++ bytes) old.bytes in
    let long : length builder.bytes ≡ length extends.bytes.0 + length before.bytes =
    ap length is ∙ length-append extends.bytes.0 before.bytes in
    stand value distance (omega (arith, long, reached))
    (stand_behind extends.bytes.0 before.bytes builder.bytes is value distance reached stands)

pub moved_nowhere : (p : Position) → moved 0 p ≡ p
moved_nowhere (at k) = ap at (omega arith)
moved_nowhere (at_both kt kv) =
    ap (λ k. at_both k (0 + kv)) (let e : 0 + kt ≡ kt = omega arith in e) ∙ ap (at_both kt) (omega arith)

-- what is stored is encoded behind any bytes
stands_after : (history : History) (front : List ℕ) (value : Value) (named : Named)
    → IsKept history value named
    → Stands (front ++ history.written.bytes) (position_in (front ++ history.written.bytes) named) value
stands_after history front value named kept =
    let behind : History = record history {
      written = record { bytes = front ++ history.written.bytes; promises = history.written.promises };
    } in
    let extends : Extends history behind
    = record { bytes = (front, refl); promises = ([], refl); cached = ([], refl) } in
    (kept_stays history behind value named extends kept).stands

module _ (size : ℕ) (words : ℕ → List ℕ) (old : State) (history : History)
    (is_history : IsHistoryOf old history) (new : State)
    (puts : PutsInFront (front_entry size words) old (length new.bytes) new) (value : Value)
    (named : Named) (kept : IsKept history value named) where
  abbrev after : History
  after = (puts.puts.puts history is_history).0

  after_is : IsHistoryOf new after
  after_is = (puts.puts.puts history is_history).2

  abbrev adds : Adds (front_part size words history.written.promises) None history (length new.bytes)
      after
  adds = (puts.puts.puts history is_history).1

  still : IsKept after value named
  still = kept_stays history after value named
      (put_extends old.settings (front_entry size words) [] history (length new.bytes) after adds) kept

  keep : Keep after.written.promises (length new.bytes)
  keep = (after_is.described.kept (length new.bytes) (let le : length new.bytes ≤ length new.bytes = omega arith in le)).1
      (0, (let none = puts.kept in let e : length new.bytes ≡ length new.bytes + new.delayed + 0 * (new.mask + 1) = omega (arith, none) in e))

  stands_and_aligned : Stands new.bytes (position_in new.bytes named) value
      × AlignedAt new.bytes (position_in new.bytes named) value
  stands_and_aligned =
      subst (λ B. Stands B (position_in B named) value × AlignedAt B (position_in B named) value)
      after_is.bytes (
        still.stands,
        subst (λ p. AlignedAt after.written.bytes p value)
            (moved_nowhere (position_in after.written.bytes named))
            (still.aligned [] (subst (λ B. Keep after.written.promises (length B)) (sym after_is.bytes) keep)),
      )

  front : List ℕ
  front = words adds.placed.place ++ replicate adds.placed.padding 0

  new_bytes : new.bytes ≡ front ++ history.written.bytes
  unfolding front
  new_bytes = sym after_is.bytes ∙ adds.placed.bytes

  stands_from : (n : ℕ) → ((place : ℕ) (pad : List ℕ) → n ≤ length (words place ++ pad))
      → Stands (drop n new.bytes) (position_in (drop n new.bytes) named) value
  unfolding front
  stands_from n inside =
      let within : n ≤ length front = inside adds.placed.place (replicate adds.placed.padding 0) in
      subst (λ (B : List ℕ). Stands B (position_in B named) value)
      (sym (ap (drop n) new_bytes ∙ drop-append-le n front history.written.bytes within))
      (stands_after history (drop n front) value named kept)

module _ {X T : Type 0} (may : X → State → Type 0) (outcome : X → Outcome (Offset T))
    (lawful : IsLawful may outcome (λ offset. offset.distance)) where
  pub values_stand_finished : ValuesStandFinished may outcome
  values_stand_finished state root identifier B may_be gives =
      let before = lawful.grows root state (Ok gives.1.0) gives.1.1 may_be gives.1.2 in
      let grown = gives.1.3.puts.grows in
      let is : B ≡ (grown.0 ++ before.bytes.0) ++ state.bytes =
      gives.2 ∙ grown.1 ∙ ap (λ bytes. grown.0 ++ bytes) before.bytes.1
      ∙ sym (append_assoc grown.0 before.bytes.0 state.bytes) in
      stand_behind (grown.0 ++ before.bytes.0) state.bytes B is

  pub finishes_keep_values : FinishesKeepValues may outcome
  finishes_keep_values value named history state root identifier B is_history kept may_be gives =
      let offset = gives.1.0 in
      let between = gives.1.1 in
      let prepared = (lawful.grows root state (Ok offset) between may_be gives.1.2).history history
      is_history in
      subst (λ B. Stands B (position_in B named) value × AlignedAt B (position_in B named) value)
      (sym gives.2)
      (stands_and_aligned (length (identifier_bytes identifier) + 4)
      (root_words offset.distance identifier) between prepared.0 prepared.1 gives.0 gives.1.3 value named
      (kept_stays history prepared.0 value named prepared.2 kept))

  pub sized_finishes_keep_values : SizedFinishesKeepValues may outcome
  sized_finishes_keep_values value named history state root identifier B is_history kept may_be gives =
      let offset = gives.1.0 in
      let between = gives.1.1 in
      let prepared = (lawful.grows root state (Ok offset) between may_be gives.1.2).history history
      is_history in
      let size : ℕ = length (identifier_bytes identifier) + 8 in
      let words : ℕ → List ℕ = sized_words offset.distance identifier in
      let still : IsKept prepared.0 value named =
      kept_stays history prepared.0 value named prepared.2 kept in
      let whole = stands_and_aligned size words between prepared.0 prepared.1 gives.0 gives.1.3
      value named still in
      subst (λ B. Stands B (position_in B named) value × AlignedAt B (position_in B named) value
      × Stands (drop 4 B) (position_in (drop 4 B) named) value) (sym gives.2) (
        whole.0,
        whole.1,
        stands_from size words between prepared.0 prepared.1 gives.0 gives.1.3 value named still 4
            (four_inside offset.distance identifier),
      )
