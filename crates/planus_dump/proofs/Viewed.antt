-- What a view leaves.
use Rattle.std.proofs.Common.{◌≡◌, ◌≢◌, true, append_assoc, ℕ, List, [], ◌∷◌, ◌++◌, map, refl, sym, ap, ◌∙◌, subst, Option, Some, Ok, Err, false, ◌⊎◌, inl, inr}
use Rattle.std.specs.Prelude.{◌||◌}
use Rattle.std.specs.List.{list_any}
use Rattle.std.specs.Io.KnownBytes.{Appends}
use Rattle.std.proofs.KnownBytes.{Appends-nil, Appends-trans}
use Rattle.std.proofs.lemmas.Grind.{flat_map-append}
use Rattle.std.specs.Result.{IsOk, OnErr}
use Rattle.planus_dump.specs.Dumped.{AreShown, events_of}
use Rattle.planus_dump.specs.Events.{Event}
use Rattle.planus_dump.specs.Faults.{is_fault}
use Rattle.planus_dump.specs.Schemas.{is_good}
use Rattle.std.specs.Option.{unwrap_or}
use Rattle.planus_dump.specs.Views.{IsTold, EndsBy, lines_text, WritesView, BeginsView, FailsView}
use Rattle.planus_dump.specs.Writing.{WritesBeginning}
use Rattle.planus_dump.specs.declared.line_sink.LineSink.{LineSink}
use Rattle.planus_dump.specs.declared.line_writer.LineWriter.{LineWriter}
use Rattle.planus_dump.specs.declared.sink_error.SinkError.{SinkError}
use Rattle.planus_dump.specs.declared.schemas.Schema.{Schema}
use Rattle.planus_dump.specs.declared.end.End.{End}
use Rattle.planus_dump.specs.declared.view_error.ViewError.{ViewError}
use Rattle.planus_dump.specs.declared.view_error.ViewError.TheVariants.{OutOfMemory, BadSchema, Write}
use Rattle.planus_dump.specs.inner.Shown.{begin, feed}
use Rattle.planus_dump.specs.inner.Feeding.{FeedResult, Shows, Fed}
use Rattle.planus_dump.specs.inner.Writes.{WritesOn, BeginsOn, Writes, WritesPart}
use Rattle.planus_dump.proofs.Ending.{ends_by, are_lines, lines_after}
use Rattle.planus_dump.proofs.Feeds.{AreLines, Answered, walked, some_line, some_lines_shown}
use Rattle.planus_dump.proofs.Left.{is_told}
use Rattle.planus_dump.proofs.Walked.{shown_after}
use Rattle.planus_dump.proofs.Writes.{shown-append, begins_more, on_begun}

pub fails : (schema : Schema) (bytes : List ℕ) (most size : ℕ) (before after : Option (List ℕ)) (error : ViewError) → error ≢ BadSchema → BeginsView schema bytes most size before after
    → FailsView schema bytes most size error before after
fails schema bytes most size before after OutOfMemory is begun = begun
fails schema bytes most size before after Write is begun = begun
fails schema bytes most size before after BadSchema is begun = absurd (is refl)

module _ {W : Type 0} (contents : W → Option (List ℕ)) where
  -- a new one
  pub record Starts (start : LineWriter W) : Type 0 where
    pub block : start.block.items ≡ []
    pub fault : start.has_fault ≡ false

  pub record Wrote (start : LineWriter W) (es : List Event) (most size : ℕ) (out : LineSink (LineWriter W)) : Type 0 where
    pub lines : List (List ℕ)
    pub ends : EndsBy out.end es lines most size
    pub told : (end : End) → IsTold es lines most size (record { end = end; has_fault = out.lines.has_fault; lines_left = out.left; bytes_left = unwrap_or out.room 0 })
    pub written : WritesOn contents start (lines_text lines) out.lines

  pub record Began (start : LineWriter W) (es : List Event) (most size : ℕ) (out : LineSink (LineWriter W)) : Type 0 where
    pub lines : List (List ℕ)
    pub end : End
    pub ends : EndsBy end es lines most size
    pub begun : BeginsOn contents start (lines_text lines) out.lines

  pub starts : (start : LineWriter W) → Starts start → Writes contents start [] start
  starts start new = record {
    lines = [];
    shown = tt;
    written = record { same = refl; leaves = ([], ap (λ l. l ++ []) new.block ∙ sym new.block, Appends-nil (contents start.writer.now)) };
    fault = new.fault ∙ ap (λ b. b || false) (sym new.fault);
  }

  pub wrote : (start : LineWriter W) (old out : LineSink (LineWriter W)) (es : List Event) (most size : ℕ) → Starts start
      → (Writes contents start [] start → Shows (Writes contents) (WritesPart contents) start old (begin most (Some size)))
      → Fed (Writes contents) (WritesPart contents) old es (Ok (tt {0})) out → Wrote start es most size out
  wrote start old out es most size new begun fed =
      let s = feed (begin most (Some size)) es in
      let shows = shown_after (Writes contents) (WritesPart contents) start old out most (Some size) es (starts start new) begun fed in
      let answered : Answered [] (Some size) es most s.lines s.end = walked es most (Some size) in
      let did = shows.lines in
      record {
        lines = did.lines;
        ends = subst (λ end. EndsBy end es did.lines most size) (sym shows.end) (ends_by es s.lines did.lines most size s.end answered did.shown);
        told = λ end. is_told es did.lines most size out.left out.room end out.lines.has_fault did.shown shows.left shows.room (did.fault ∙ ap (λ b. b || list_any is_fault s.lines) new.fault);
        written = did.written;
      }

  of_front : (start now : LineWriter W) (es front rest : List Event) (most size : ℕ) → (feed (begin most (Some size)) es).lines ≡ front ++ rest
      → (lines : List (List ℕ)) → AreShown front lines → BeginsOn contents start (lines_text lines) now
      → (out : LineSink (LineWriter W)) → out.lines ≡ now → Began start es most size out
  of_front start now es front rest most size split lines shown on out is =
      let s = feed (begin most (Some size)) es in
      let answered : Answered [] (Some size) es most s.lines s.end = walked es most (Some size) in
      let all : AreLines (front ++ rest) = subst AreLines split (are_lines es s.lines (Some size) most s.end answered) in
      let more = map some_line rest in
      let shows : AreShown (front ++ rest) (lines ++ more) = shown-append front rest lines more shown (some_lines_shown rest (lines_after front rest all)) in
      record {
        lines = lines ++ more;
        end = s.end;
        ends = ends_by es s.lines (lines ++ more) most size s.end answered (subst (λ ls. AreShown ls (lines ++ more)) (sym split) shows);
        begun = subst (λ w. BeginsOn contents start (lines_text (lines ++ more)) w) (sym is)
            (subst (λ bytes. BeginsOn contents start bytes now) (sym (flat_map-append (λ line. line ++ 10 ∷ []) lines more)) (begins_more contents start now (lines_text lines) (lines_text more) on));
      }

  pub began : (start : LineWriter W) (old out : LineSink (LineWriter W)) (es : List Event) (most size : ℕ) (error : SinkError) → Starts start
      → (Writes contents start [] start → Shows (Writes contents) (WritesPart contents) start old (begin most (Some size)))
      → Fed (Writes contents) (WritesPart contents) old es (Err error) out → Began start es most size out
  unfolding Fed
  began start old out es most size error new begun fed =
      let b = fed start (begin most (Some size)) (begun (starts start new)) in
      by_end b.front b.rest b.split b.broken
    where
      by_end : (front rest : List Event) → (feed (begin most (Some size)) es).lines ≡ front ++ rest → Writes contents start front out.lines ⊎ WritesPart contents start front out.lines → Began start es most size out
      by_end front rest split (inl did) = of_front start out.lines es front rest most size split did.lines did.shown (on_begun contents start out.lines (lines_text did.lines) did.written) out refl
      by_end front rest split (inr did) = of_front start out.lines es front rest most size split did.lines did.shown did.begun out refl

  pub whole : (schema : Schema) (bytes : List ℕ) (most size : ℕ) (start : LineWriter W) (old out : LineSink (LineWriter W)) (r : FeedResult) (mid last : W) (end : End)
      → is_good schema ≡ true → Starts start
      → (Writes contents start [] start → Shows (Writes contents) (WritesPart contents) start old (begin most (Some size)))
      → Fed (Writes contents) (WritesPart contents) old (events_of schema bytes) r out → IsOk r → end ≡ out.end
      → Appends (contents out.lines.writer.now) (contents mid) out.lines.block.items
      → (out.lines.writer.ghost_name ≡ start.writer.ghost_name → last ≡ mid)
      → WritesView schema bytes most size (record { end = end; has_fault = out.lines.has_fault; lines_left = out.left; bytes_left = unwrap_or out.room 0 }) (contents start.writer.now) (contents last)
  whole schema bytes most size start old out (Err error) mid last end good new begun fed is ended rest there = cc
  whole schema bytes most size start old out (Ok u) mid last end good new begun fed is ended rest there =
      let did = wrote start old out (events_of schema bytes) most size new begun fed in
      let (front, split, added) = did.written.leaves in
      record {
        lines = did.lines;
        viewed = record { good = good; ends = subst (λ end. EndsBy end (events_of schema bytes) did.lines most size) (sym ended) did.ends };
        told = did.told end;
        written = subst (λ w. Appends (contents start.writer.now) (contents w) (lines_text did.lines)) (sym (there did.written.same))
            (subst (Appends (contents start.writer.now) (contents mid)) (sym (ap (λ l. l ++ lines_text did.lines) (sym new.block) ∙ split))
            (Appends-trans _ _ _ front out.lines.block.items added rest));
      }

  -- the same of what was lent, by what ends the loan
  pub whole_lent : (schema : Schema) (bytes : List ℕ) (most size : ℕ) (start : LineWriter W) (old out : LineSink (LineWriter W)) (r : FeedResult) (mid lent : W)
      (end : End) → is_good schema ≡ true → Starts start
      → (Writes contents start [] start → Shows (Writes contents) (WritesPart contents) start old (begin most (Some size)))
      → Fed (Writes contents) (WritesPart contents) old (events_of schema bytes) r out → IsOk r → end ≡ out.end
      → Appends (contents out.lines.writer.now) (contents mid) out.lines.block.items → start.writer.now ≡ lent
      → (last : W) → (out.lines.writer.ghost_name ≡ start.writer.ghost_name → last ≡ mid)
      → WritesView schema bytes most size (record { end = end; has_fault = out.lines.has_fault; lines_left = out.left; bytes_left = unwrap_or out.room 0 }) (contents lent) (contents last)
  whole_lent schema bytes most size start old out r mid lent end good new begun fed is ended rest from last there =
      subst (λ w. WritesView schema bytes most size (record { end = end; has_fault = out.lines.has_fault; lines_left = out.left; bytes_left = unwrap_or out.room 0 }) (contents w) (contents last)) from
      (whole schema bytes most size start old out r mid last end good new begun fed is ended rest there)

  pub part : (schema : Schema) (bytes : List ℕ) (most size : ℕ) (start : LineWriter W) (old out : LineSink (LineWriter W)) (r : FeedResult) (mid last : W)
      → is_good schema ≡ true → Starts start
      → (Writes contents start [] start → Shows (Writes contents) (WritesPart contents) start old (begin most (Some size)))
      → Fed (Writes contents) (WritesPart contents) old (events_of schema bytes) r out
      → WritesBeginning out.lines.block.items (contents out.lines.writer.now) (contents mid) → OnErr r (mid ≡ out.lines.writer.now)
      → (out.lines.writer.ghost_name ≡ start.writer.ghost_name → last ≡ mid)
      → BeginsView schema bytes most size (contents start.writer.now) (contents last)
  part schema bytes most size start old out (Ok u) mid last good new begun fed (two, after, also, more) kept there =
      let did = wrote start old out (events_of schema bytes) most size new begun fed in
      let (one, split, added) = did.written.leaves in
      record {
        lines = did.lines;
        end = out.end;
        viewed = record { good = good; ends = did.ends };
        begun = subst (λ w. WritesBeginning (lines_text did.lines) (contents start.writer.now) (contents w)) (sym (there did.written.same)) (
          one ++ two,
          after,
          ap (λ l. l ++ lines_text did.lines) (sym new.block) ∙ split ∙ ap (λ l. one ++ l) also ∙ sym (append_assoc one two after),
          Appends-trans _ _ _ one two added more,
        );
      }
  part schema bytes most size start old out (Err error) mid last good new begun fed rest kept there =
      let did = began start old out (events_of schema bytes) most size error new begun fed in
      let (one, after, split, added) = did.begun.begun in
      record {
        lines = did.lines;
        end = did.end;
        viewed = record { good = good; ends = did.ends };
        begun = subst (λ w. WritesBeginning (lines_text did.lines) (contents start.writer.now) (contents w)) (sym (there did.begun.same ∙ kept))
            (one, after, ap (λ l. l ++ lines_text did.lines) (sym new.block) ∙ split, added);
      }

  -- the same of what was lent, by what ends the loan
  pub part_lent : (schema : Schema) (bytes : List ℕ) (most size : ℕ) (start : LineWriter W) (old out : LineSink (LineWriter W)) (r : FeedResult) (mid lent : W)
      (error : ViewError) → error ≢ BadSchema → is_good schema ≡ true → Starts start
      → (Writes contents start [] start → Shows (Writes contents) (WritesPart contents) start old (begin most (Some size)))
      → Fed (Writes contents) (WritesPart contents) old (events_of schema bytes) r out
      → WritesBeginning out.lines.block.items (contents out.lines.writer.now) (contents mid) → OnErr r (mid ≡ out.lines.writer.now)
      → start.writer.now ≡ lent → (last : W) → (out.lines.writer.ghost_name ≡ start.writer.ghost_name → last ≡ mid)
      → FailsView schema bytes most size error (contents lent) (contents last)
  part_lent schema bytes most size start old out r mid lent error is good new begun fed rest kept from last there =
      fails schema bytes most size (contents lent) (contents last) error is
      (subst (λ w. BeginsView schema bytes most size (contents w) (contents last)) from
      (part schema bytes most size start old out r mid last good new begun fed rest kept there))
