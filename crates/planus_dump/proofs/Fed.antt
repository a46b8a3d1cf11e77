-- What a walk does with events, one call after another.
use Rattle.std.proofs.Common.{◌≡◌, ◌≢◌, ℕ, ◌-◌, ◌<◌, ◌≤◌, List, [], ◌∷◌, ◌++◌, length, Option, Some, None, Ok, Err, refl, sym, ap, ◌∙◌, subst, arith, length-append, Bool, true, false, ◌==◌, inl, inr}
use Rattle.std.specs.Prelude.{if◌then◌else◌, nat_lt}
use Rattle.std.specs.Result.{IsErr}
use Rattle.std.proofs.lemmas.List.{append_assoc, append-nil}
use Rattle.std.proofs.lemmas.Bool.{eqb-true, eqb-false, ltb-true, ltb-false}
use Rattle.planus_dump.specs.Events.{Event, line, faulty, deep, float}
use Rattle.planus_dump.specs.Views.{cost}
use Rattle.planus_dump.specs.declared.line.Line.{Line}
use Rattle.planus_dump.specs.declared.line.Line.TheVariants.{Text, Fault, Float}
use Rattle.planus_dump.specs.declared.line_sink.LineSink.{LineSink}
use Rattle.planus_dump.specs.declared.end.End.{End}
use Rattle.planus_dump.specs.declared.end.End.TheVariants.{Whole, TooDeep, TooManyLines, TooManyBytes}
use Rattle.planus_dump.specs.inner.Shown.{event_of, Shown, by_room, added, going, step_at, step, feed}
use Rattle.planus_dump.specs.inner.Taking.{Takes, Puts}
use Rattle.planus_dump.specs.inner.Feeding.{Fits, left_in, IsOpen, FeedResult, Shows, Breaks, Fed}
use Rattle.planus_dump.specs.declared.sink_error.SinkError.{SinkError}
use Rattle.planus_dump.proofs.Feeds.{feed-append, feed-stopped}

-- ---- the lines grow

abbrev Grows : List Event → List Event → Type 0
Grows ls new = (more : List Event) × (new ≡ ls ++ more)

same_lines : (ls : List Event) → Grows ls ls
same_lines ls = ([], sym (append-nil ls))

room-grows : (s : Shown) (e : Event) (room : Option ℕ) → Grows s.lines (by_room s e room).lines
unfolding same_lines
room-grows s e None = (e ∷ [], refl)
room-grows s e (Some room) = by_test (nat_lt room (cost e))
  where
    by_test : (b : Bool) → Grows s.lines (if b then record s { end = TooManyBytes } else record s { lines = s.lines ++ e ∷ []; room = Some (room - cost e) }).lines
    by_test true = same_lines s.lines
    by_test false = (e ∷ [], refl)

added-grows : (s : Shown) (e : Event) → Grows s.lines (added s e).lines
unfolding same_lines room-grows
added-grows s e = by_test (length s.lines == s.budget)
  where
    by_test : (b : Bool) → Grows s.lines (if b then record s { end = TooManyLines } else by_room s e s.room).lines
    by_test true = same_lines s.lines
    by_test false = room-grows s e s.room

going-grows : (s : Shown) (e : Event) → Grows s.lines (going s e).lines
unfolding same_lines
going-grows s deep = same_lines s.lines
going-grows s (line l) = added-grows s (line l)
going-grows s (faulty l) = added-grows s (faulty l)
going-grows s (float path number) = added-grows s (float path number)

step-grows : (s : Shown) (t : End) (e : Event) → Grows s.lines (step_at s t e).lines
unfolding same_lines
step-grows s Whole e = going-grows s e
step-grows s TooDeep e = same_lines s.lines
step-grows s TooManyLines e = same_lines s.lines
step-grows s TooManyBytes e = same_lines s.lines

pub feed-grows : (s : Shown) (es : List Event) → Grows s.lines (feed s es).lines
unfolding same_lines
feed-grows s [] = same_lines s.lines
feed-grows s (e ∷ es) =
    let (first, is) = step-grows s s.end e in
    let (more, all) = feed-grows (step s e) es in
    (first ++ more, all ∙ ap (λ ls. ls ++ more) is ∙ append_assoc s.lines first more)

-- ---- one event

line_added : (s : Shown) (e : Event) → e ≢ deep → going s e ≡ added s e
line_added s deep h = absurd (h refl)
line_added s (line l) h = refl
line_added s (faulty l) h = refl
line_added s (float path number) h = refl

step_added : (s : Shown) (e : Event) → s.end ≡ Whole → e ≢ deep → step s e ≡ added s e
step_added s e is h = ap (λ t. step_at s t e) is ∙ line_added s e h

step_deep : (s : Shown) → s.end ≡ Whole → step s deep ≡ record s { end = TooDeep }
step_deep s is = ap (λ t. step_at s t deep) is

step_many : (s : Shown) (e : Event) → s.end ≡ Whole → e ≢ deep → length s.lines ≡ s.budget → step s e ≡ record s { end = TooManyLines }
step_many s e is h full = step_added s e is h ∙ by_test (length s.lines == s.budget) refl
  where
    by_test : (b : Bool) → (length s.lines == s.budget) ≡ b → (if b then record s { end = TooManyLines } else by_room s e s.room) ≡ record s { end = TooManyLines }
    by_test true f = refl
    by_test false f = absurd (eqb-false (length s.lines) s.budget f full)

step_fewer : (s : Shown) (e : Event) → s.end ≡ Whole → e ≢ deep → length s.lines ≢ s.budget → step s e ≡ by_room s e s.room
step_fewer s e is h fewer = step_added s e is h ∙ by_test (length s.lines == s.budget) refl
  where
    by_test : (b : Bool) → (length s.lines == s.budget) ≡ b → (if b then record s { end = TooManyLines } else by_room s e s.room) ≡ by_room s e s.room
    by_test true f = absurd (fewer (eqb-true (length s.lines) s.budget f))
    by_test false f = refl

room_long : (s : Shown) (e : Event) (room : ℕ) → room < cost e → by_room s e (Some room) ≡ record s { end = TooManyBytes }
room_long s e room long = by_test (nat_lt room (cost e)) refl
  where
    by_test : (b : Bool) → nat_lt room (cost e) ≡ b → (if b then record s { end = TooManyBytes } else record s { lines = s.lines ++ e ∷ []; room = Some (room - cost e) }) ≡ record s { end = TooManyBytes }
    by_test true f = refl
    by_test false f = let below : cost e ≤ room = ltb-false room (cost e) f in absurd (omega (arith, below, long))

room_taken : (s : Shown) (e : Event) (room : Option ℕ) → s.room ≡ room → Fits room (cost e) → by_room s e room ≡ record s { lines = s.lines ++ e ∷ []; room = left_in room (cost e) }
room_taken s e None is fits = ap (λ (room : Option ℕ). record s { lines = s.lines ++ e ∷ []; room = room }) is
room_taken s e (Some room) is fits = by_test (nat_lt room (cost e)) refl
  where
    by_test : (b : Bool) → nat_lt room (cost e) ≡ b
        → (if b then record s { end = TooManyBytes } else record s { lines = s.lines ++ e ∷ []; room = Some (room - cost e) }) ≡ record s { lines = s.lines ++ e ∷ []; room = Some (room - cost e) }
    by_test true f = let above : room < cost e = ltb-true room (cost e) f in absurd (omega (arith, above, fits))
    by_test false f = refl

pub line_event : (l : Line) → event_of l ≢ deep
line_event (Text text) = λ e. cc
line_event (Fault text) = λ e. cc
line_event (Float path number) = λ e. cc

module _ {L : Type 0} (takes breaks : Takes L) where
  pub fed_stopped : (o : LineSink L) (es : List Event) → o.end ≢ Whole → Fed takes breaks o es (Ok (tt {0})) o
  unfolding Fed
  fed_stopped o es h start s shows = subst (Shows takes breaks start o) (sym (feed-stopped s es (λ e. h (shows.end ∙ e)))) shows

  pub fed_deep : (o : LineSink L) → o.end ≡ Whole → Fed takes breaks o (deep ∷ []) (Ok (tt {0})) (record o { end = TooDeep })
  unfolding Fed
  fed_deep o is start s shows = subst (Shows takes breaks start (record o { end = TooDeep })) (sym (step_deep s (sym shows.end ∙ is)))
      (record { lines = shows.lines; left = shows.left; room = shows.room; end = refl })

  pub fed_many : (o : LineSink L) (e : Event) → o.end ≡ Whole → o.left ≡ 0 → e ≢ deep → Fed takes breaks o (e ∷ []) (Ok (tt {0})) (record o { end = TooManyLines })
  unfolding Fed
  fed_many o e is none h start s shows = subst (Shows takes breaks start (record o { end = TooManyLines })) (sym (step_many s e (sym shows.end ∙ is) h (omega (arith, shows.left, none))))
      (record { lines = shows.lines; left = shows.left; room = shows.room; end = refl })

  pub fed_long : (o : LineSink L) (e : Event) (room size : ℕ) → o.end ≡ Whole → 0 < o.left → o.room ≡ Some room → room < size → e ≢ deep → size ≤ cost e
      → Fed takes breaks o (e ∷ []) (Ok (tt {0})) (record o { end = TooManyBytes })
  unfolding Fed
  fed_long o e room size is some at long h most start s shows =
      let fewer : length s.lines ≢ s.budget = λ full. omega (arith, shows.left, some, full) in
      let above : room < cost e = omega (arith, long, most) in
      subst (Shows takes breaks start (record o { end = TooManyBytes }))
      (sym (step_fewer s e (sym shows.end ∙ is) h fewer ∙ ap (by_room s e) (sym shows.room ∙ at) ∙ room_long s e room above))
      (record { lines = shows.lines; left = shows.left; room = shows.room; end = refl })

  pub fed_taken : (o : LineSink L) (e : Event) (r : FeedResult) (new : L) → IsOpen o (cost e) → e ≢ deep → Puts takes breaks o.lines e r new
      → Fed takes breaks o (e ∷ []) r (record o { lines = new; left = o.left - 1; room = left_in o.room (cost e) })
  unfolding Fed
  fed_taken o e (Ok u) new isopen h puts = λ start s shows.
      let fewer : length s.lines ≢ s.budget = λ full. omega (arith, shows.left, isopen.some, full) in
      subst (Shows takes breaks start (record o { lines = new; left = o.left - 1; room = left_in o.room (cost e) }))
      (sym (step_fewer s e (sym shows.end ∙ isopen.going) h fewer ∙ room_taken s e s.room refl (subst (λ room. Fits room (cost e)) shows.room isopen.fits)))
      (record {
        lines = puts start s.lines shows.lines;
        left = omega (arith, shows.left, isopen.some, length-append s.lines (e ∷ []));
        room = ap (λ room. left_in room (cost e)) shows.room;
        end = shows.end;
      })
  fed_taken o e (Err error) new isopen h puts = λ start s shows.
      let fewer : length s.lines ≢ s.budget = λ full. omega (arith, shows.left, isopen.some, full) in
      record {
        front = s.lines ++ e ∷ [];
        rest = [];
        split = ap (λ (t : Shown). t.lines) (step_fewer s e (sym shows.end ∙ isopen.going) h fewer ∙ room_taken s e s.room refl (subst (λ room. Fits room (cost e)) shows.room isopen.fits))
            ∙ sym (append-nil (s.lines ++ e ∷ []));
        broken = inr (puts start s.lines shows.lines);
      }

  -- ---- several

  pub fed_none : (o : LineSink L) (es : List Event) → es ≡ [] → Fed takes breaks o es (Ok (tt {0})) o
  unfolding Fed
  fed_none o es none start s shows = subst (λ es. Shows takes breaks start o (feed s es)) (sym none) shows

  -- memory for a path was refused
  pub fed_fails : (o : LineSink L) (es : List Event) (r : FeedResult) → IsErr r → Fed takes breaks o es r o
  unfolding Fed
  fed_fails o es (Ok u) is = cc
  fed_fails o es (Err error) is = λ start s shows.
      let (more, all) = feed-grows s es in
      record { front = s.lines; rest = more; split = all; broken = inl shows.lines }

  pub fed_then : (o m n : LineSink L) (es fs : List Event) (r : FeedResult) → Fed takes breaks o es (Ok (tt {0})) m → Fed takes breaks m fs r n → Fed takes breaks o (es ++ fs) r n
  unfolding Fed
  fed_then o m n es fs (Ok v) first second = λ start s shows. subst (Shows takes breaks start n) (sym (feed-append s es fs)) (second start (feed s es) (first start s shows))
  fed_then o m n es fs (Err error) first second = λ start s shows.
      subst (λ (t : Shown). Breaks takes breaks start t.lines n.lines) (sym (feed-append s es fs)) (second start (feed s es) (first start s shows))

  pub fed_broken : (o m : LineSink L) (es fs : List Event) (error : SinkError) (r : FeedResult) → Fed takes breaks o es (Err error) m → IsErr r → Fed takes breaks o (es ++ fs) r m
  unfolding Fed
  fed_broken o m es fs error (Ok v) first is = cc
  fed_broken o m es fs error (Err other) first is = λ start s shows.
      let (more, all) = feed-grows (feed s es) fs in
      let b = first start s shows in
      record {
        front = b.front;
        rest = b.rest ++ more;
        split = ap (λ (t : Shown). t.lines) (feed-append s es fs) ∙ all ∙ ap (λ ls. ls ++ more) b.split ∙ append_assoc b.front b.rest more;
        broken = b.broken;
      }

  pub fed_refused : (o m : LineSink L) (es : List Event) (r : FeedResult) → m ≡ o → IsErr r → Fed takes breaks o es r m
  fed_refused o m es r same is = subst (Fed takes breaks o es r) (sym same) (fed_fails o es r is)

  pub fed_as : (o m : LineSink L) (es fs : List Event) (r : FeedResult) → Fed takes breaks o es r m → fs ≡ es → Fed takes breaks o fs r m
  fed_as o m es fs r fed same = subst (λ es. Fed takes breaks o es r m) (sym same) fed

  -- ---- a loop

  -- All of the events but the rest were fed.
  pub record Goes (o : LineSink L) (all rest : List Event) (m : LineSink L) : Type 0 where
    pub done : List Event
    pub split : all ≡ done ++ rest
    pub fed : Fed takes breaks o done (Ok (tt {0})) m

  pub goes_begin : (o m : LineSink L) (all first rest : List Event) → all ≡ first ++ rest → Fed takes breaks o first (Ok (tt {0})) m → Goes o all rest m
  goes_begin o m all first rest split fed = record { done = first; split = split; fed = fed }

  pub goes_on : (o m n : LineSink L) (all rest next after : List Event) → Goes o all rest m → rest ≡ next ++ after → Fed takes breaks m next (Ok (tt {0})) n → Goes o all after n
  goes_on o m n all rest next after goes split fed = record {
    done = goes.done ++ next;
    split = goes.split ∙ ap (λ es. goes.done ++ es) split ∙ sym (append_assoc goes.done next after);
    fed = fed_then o m n goes.done next (Ok (tt {0})) goes.fed fed;
  }

  pub goes_done : (o m : LineSink L) (all rest : List Event) → Goes o all rest m → rest ≡ [] → Fed takes breaks o all (Ok (tt {0})) m
  goes_done o m all rest goes none =
      subst (λ es. Fed takes breaks o es (Ok (tt {0})) m) (sym (goes.split ∙ ap (λ es. goes.done ++ es) none ∙ append-nil goes.done)) goes.fed

  pub goes_stopped : (o m : LineSink L) (all rest : List Event) → Goes o all rest m → m.end ≢ Whole → Fed takes breaks o all (Ok (tt {0})) m
  goes_stopped o m all rest goes h =
      subst (λ es. Fed takes breaks o es (Ok (tt {0})) m) (sym goes.split) (fed_then o m m goes.done rest (Ok (tt {0})) goes.fed (fed_stopped m rest h))

  pub goes_fails : (o m : LineSink L) (all rest : List Event) (r : FeedResult) → Goes o all rest m → IsErr r → Fed takes breaks o all r m
  goes_fails o m all rest (Ok u) goes is = cc
  goes_fails o m all rest (Err error) goes is =
      subst (λ es. Fed takes breaks o es (Err error) m) (sym goes.split) (fed_then o m m goes.done rest (Err error) goes.fed (fed_fails m rest (Err error) is))

  pub goes_broken : (o m n : LineSink L) (all rest next after : List Event) (error : SinkError) (r : FeedResult) → Goes o all rest m → rest ≡ next ++ after → Fed takes breaks m next (Err error) n → IsErr r → Fed takes breaks o all r n
  goes_broken o m n all rest next after error (Ok v) goes split fed is = cc
  goes_broken o m n all rest next after error (Err other) goes split fed is =
      subst (λ es. Fed takes breaks o es (Err other) n) (sym (goes.split ∙ ap (λ es. goes.done ++ es) split))
      (fed_then o m n goes.done (next ++ after) (Err other) goes.fed (fed_broken m n next after error (Err other) fed is))
