-- A stored table is encoded in a finish, also as its root.
use Rattle.std.proofs.Common.{◌≡◌, ℕ, ◌+◌, ◌≤◌, List, [], ◌++◌, length, drop, replicate, true, Option}
use Rattle.std.proofs.Common.{None, Ok, sym, subst, ap, ◌∙◌, refl, arith}
use Rattle.std.proofs.lemmas.List.{drop-append-le}
use Rattle.planus_read.specs.Stands.{ReferenceStands}
use Rattle.planus_read.specs.Values.{reference}
use Rattle.planus_read.proofs.SliceLaws.{fields_stand_in_slices}
use Rattle.planus_write.specs.Finishing.{PutsInFront, Finishes}
use Rattle.planus_write.specs.lemmas.Laws.{offset_is_lawful}
use Rattle.planus_write.specs.History.{History, Adds}
use Rattle.planus_write.specs.Parts.{finish_part, sized_finish_entry, sized_finish_part, front_entry}
use Rattle.planus_write.specs.Parts.{front_part, identifier_bytes, root_words, sized_words}
use Rattle.planus_write.specs.Preparing.{IsPrepared, IsLawful}
use Rattle.planus_write.specs.Placing.{Outcome}
use Rattle.planus_write.specs.State.{State, IsHistoryOf, Extends}
use Rattle.planus_write.specs.declared.offset.Offset.{Offset}
use Rattle.planus_write.specs.lemmas.StandingLaws.{finishes_lead, sized_finishes_stand}
use Rattle.planus_write.specs.lemmas.Staying.{kept_stays}
use Rattle.planus_write.specs.Contents.{Content, named_at}
use Rattle.planus.specs.Contents.{TableIsKept, there_of}
use Rattle.planus.specs.lemmas.ContentLaws.{fields_stay}
use Rattle.planus.specs.ReadBack.{ContentsStand, are_apart, KeptTablesStay}
use Rattle.planus.specs.ReadBack.{FinishesKeepTables, SizedFinishesKeepTables}
use Rattle.planus.specs.ReadBack.{FinishedTablesStand, SizedFinishedTablesStand}
use Rattle.planus.proofs.ReadBack.{kept_tables_stand}

pub tables_stay : KeptTablesStay
tables_stay before after contents distance extends is = record {
  fields = is.fields;
  are = fields_stay before after (there_of contents) is.fields extends is.are;
  table_kept = kept_stays before after _ (named_at distance) extends is.table_kept;
}

stands_behind : (history : History) (front : List ℕ) (contents : List (ℕ × Option Content)) (distance : ℕ)
    → TableIsKept history contents distance → are_apart contents ≡ true
    → ContentsStand (front ++ history.written.bytes) contents distance
stands_behind history front contents distance kept apart =
    let behind : History = record history {
      written = record { bytes = front ++ history.written.bytes; promises = history.written.promises };
    } in
    let extends : Extends history behind
    = record { bytes = (front, refl); promises = ([], refl); cached = ([], refl) } in
    kept_tables_stand behind contents distance (tables_stay history behind contents distance extends kept)
    apart

module _ (size : ℕ) (words : ℕ → List ℕ) (old : State) (history : History) (is_history : IsHistoryOf old history)
    (new : State) (puts : PutsInFront (front_entry size words) old (length new.bytes) new) where
  abbrev after : History
  after = (puts.puts.puts history is_history).0

  abbrev adds : Adds (front_part size words history.written.promises) None history (length new.bytes) after
  adds = (puts.puts.puts history is_history).1

  abbrev front : List ℕ
  front = words adds.placed.place ++ replicate adds.placed.padding 0

  after_bytes : after.written.bytes ≡ new.bytes
  after_bytes = (puts.puts.puts history is_history).2.bytes

  new_bytes : new.bytes ≡ front ++ history.written.bytes
  new_bytes = sym after_bytes ∙ adds.placed.bytes

  module _ (contents : List (ℕ × Option Content)) (distance : ℕ)
      (kept : TableIsKept history contents distance) (apart : are_apart contents ≡ true) where
    stands_whole : ContentsStand new.bytes contents distance
    stands_whole =
        subst (λ (B : List ℕ). ContentsStand B contents distance) (sym new_bytes)
        (stands_behind history front contents distance kept apart)

    stands_from : (n : ℕ) → ((place : ℕ) (pad : List ℕ) → n ≤ length (words place ++ pad))
        → ContentsStand (drop n new.bytes) contents distance
    stands_from n inside =
        let within : n ≤ length front
        = inside adds.placed.place (replicate adds.placed.padding 0) in
        subst (λ (B : List ℕ). ContentsStand B contents distance)
        (sym (ap (drop n) new_bytes ∙ drop-append-le n front history.written.bytes within))
        (stands_behind history (drop n front) contents distance kept apart)

pub four_inside : (root : ℕ) (identifier : Option (List ℕ)) (place : ℕ) (pad : List ℕ)
    → 4 ≤ length (sized_words root identifier place ++ pad)
four_inside root identifier place pad = omega arith

module _ {X T : Type 0} (may : X → State → Type 0) (outcome : X → Outcome (Offset T))
    (lawful : IsLawful may outcome (λ offset. offset.distance)) where
  pub finishes_keep_tables : FinishesKeepTables may outcome
  finishes_keep_tables contents history state distance root identifier bytes is_history kept apart may_be gives =
      let offset = gives.1.0 in
      let between = gives.1.1 in
      let prepared = (lawful.grows root state (Ok offset) between may_be gives.1.2).history history is_history in
      subst (λ (B : List ℕ). ContentsStand B contents distance) (sym gives.2)
      (stands_whole (length (identifier_bytes identifier) + 4) (root_words offset.distance identifier)
      between prepared.0 prepared.1 gives.0 gives.1.3 contents distance
      (tables_stay history prepared.0 contents distance prepared.2 kept) apart)

  pub sized_finishes_keep_tables : SizedFinishesKeepTables may outcome
  sized_finishes_keep_tables contents history state distance root identifier bytes is_history kept apart may_be gives =
      let offset = gives.1.0 in
      let between = gives.1.1 in
      let prepared = (lawful.grows root state (Ok offset) between may_be gives.1.2).history history is_history in
      let size : ℕ = length (identifier_bytes identifier) + 8 in
      let words : ℕ → List ℕ = sized_words offset.distance identifier in
      let still : TableIsKept prepared.0 contents distance
      = tables_stay history prepared.0 contents distance prepared.2 kept in (
        subst (λ (B : List ℕ). ContentsStand B contents distance) (sym gives.2)
            (stands_whole size words between prepared.0 prepared.1 gives.0 gives.1.3 contents distance
            still apart),
        subst (λ (B : List ℕ). ContentsStand (drop 4 B) contents distance) (sym gives.2)
            (stands_from size words between prepared.0 prepared.1 gives.0 gives.1.3 contents distance
            still apart 4 (four_inside offset.distance identifier)),
      )

module _ {T : Type 0} (history : History) (state : State) (offset : Offset T) (is_history : IsHistoryOf state history)
    (reached : offset.distance ≤ length state.bytes) (root : Offset T) (between : State)
    (prepared : IsPrepared offset state (Ok root) between) where
  same_root : root ≡ offset
  same_root = cc (prepared.0)

  history_between : IsHistoryOf between history
  history_between = subst (λ (state : State). IsHistoryOf state history) (sym prepared.1) is_history

  root_inside : root.distance ≤ length history.written.bytes
  root_inside =
      subst (λ (root : Offset T). root.distance ≤ length history.written.bytes) (sym same_root)
      (subst (λ (B : List ℕ). offset.distance ≤ length B) (sym is_history.bytes) reached)

  root_leads : (identifier : Option (List ℕ)) (new : State)
      → Finishes root.distance identifier between (length new.bytes) new
      → ReferenceStands new.bytes 0 offset.distance
  root_leads identifier new puts =
      let put = puts.puts.puts history history_between in
      let adds : Adds (finish_part root.distance identifier history.written.promises) None history (length new.bytes) put.0
      = put.1 in
      subst (λ (root : Offset T). ReferenceStands new.bytes 0 root.distance) same_root
      (subst (λ (B : List ℕ). ReferenceStands B 0 root.distance) put.2.bytes
      (finishes_lead root.distance identifier history.written put.0.written root_inside adds.placed))

  sized_root_leads : (identifier : Option (List ℕ)) (new : State)
      → PutsInFront (sized_finish_entry root.distance identifier) between (length new.bytes) new
      → ReferenceStands (drop 4 new.bytes) 0 offset.distance
  sized_root_leads identifier new puts =
      let put = puts.puts.puts history history_between in
      let adds : Adds (sized_finish_part root.distance identifier history.written.promises) None history (length new.bytes) put.0
      = put.1 in
      let stands = sized_finishes_stand root.distance identifier history.written put.0.written adds.placed in
      let leads : ReferenceStands new.bytes 4 root.distance
      = subst (λ (B : List ℕ). ReferenceStands B 4 root.distance) put.2.bytes (stands.leads root_inside) in
      let inside : 4 + 0 ≤ length new.bytes = (let e : 4 + leads.0 + root.distance ≡ length new.bytes = leads.2 in omega arith) in
      subst (λ (root : Offset T). ReferenceStands (drop 4 new.bytes) 0 root.distance) same_root
      (fields_stand_in_slices new.bytes 4 0 (reference root.distance) inside leads)

pub finished_tables_stand : {T : Type 0} → FinishedTablesStand T
finished_tables_stand {T} contents history state offset identifier bytes is_history kept apart reached gives = (
  finishes_keep_tables (λ offset state. offset.distance ≤ length state.bytes) IsPrepared
      offset_is_lawful contents history state offset.distance offset identifier bytes is_history kept apart
      reached gives,
  subst (λ (B : List ℕ). ReferenceStands B 0 offset.distance) (sym gives.2)
      (root_leads history state offset is_history reached gives.1.0 gives.1.1 gives.1.2 identifier gives.0 gives.1.3),
)

pub sized_finished_tables_stand : {T : Type 0} → SizedFinishedTablesStand T
sized_finished_tables_stand {T} contents history state offset identifier bytes is_history kept apart reached gives = (
  (sized_finishes_keep_tables (λ offset state. offset.distance ≤ length state.bytes) IsPrepared
      offset_is_lawful contents history state offset.distance offset identifier bytes is_history kept apart
      reached gives).1,
  subst (λ (B : List ℕ). ReferenceStands (drop 4 B) 0 offset.distance) (sym gives.2)
      (sized_root_leads history state offset is_history reached gives.1.0 gives.1.1 gives.1.2 identifier gives.0
      gives.1.3),
)
