-- What a walk from a sink's start leaves.
use Rattle.std.proofs.Common.{◌≡◌, ℕ, List, [], ◌++◌, map, sym, ap, ◌∙◌, subst, Option, Ok}
use Rattle.std.specs.Global.{Vec}
use Rattle.planus_dump.specs.Events.{Event}
use Rattle.planus_dump.specs.declared.line.Line.{Line}
use Rattle.planus_dump.specs.declared.line_sink.LineSink.{LineSink}
use Rattle.planus_dump.specs.inner.Shown.{event_of, begin, feed}
use Rattle.planus_dump.specs.inner.Taking.{Takes}
use Rattle.planus_dump.specs.inner.Feeding.{Shows, Fed}
use Rattle.planus_dump.specs.inner.Kept.{KeepsLines}
use Rattle.planus_dump.proofs.Feeds.{Answered, walked}

pub shown_after : {L : Type 0} (takes breaks : Takes L) (start : L) (old out : LineSink L) (budget : ℕ) (room : Option ℕ) (es : List Event) → takes start [] start
    → (takes start [] start → Shows takes breaks start old (begin budget room)) → Fed takes breaks old es (Ok (tt {0})) out
    → Shows takes breaks start out (feed (begin budget room) es)
unfolding Fed
shown_after takes breaks start old out budget room es none begun fed = fed start (begin budget room) (begun none)

pub kept : (breaks : Takes (Vec Line)) (start : Vec Line) (old out : LineSink (Vec Line)) (budget : ℕ) (room : Option ℕ) (es : List Event) → start.items ≡ []
    → (KeepsLines start [] start → Shows KeepsLines breaks start old (begin budget room)) → Fed KeepsLines breaks old es (Ok (tt {0})) out
    → Answered [] room es budget (map event_of out.lines.items) out.end
kept breaks start old out budget room es none begun fed =
    let nothing : KeepsLines start [] start = ap (λ xs. map event_of xs) none ∙ ap (λ xs. map event_of xs ++ []) (sym none) in
    let shows = shown_after KeepsLines breaks start old out budget room es nothing begun fed in
    let same : map event_of out.lines.items ≡ (feed (begin budget room) es).lines = shows.lines ∙ ap (λ xs. map event_of xs ++ (feed (begin budget room) es).lines) none in
    subst (λ ls. Answered [] room es budget ls out.end) (sym same)
    (subst (Answered [] room es budget (feed (begin budget room) es).lines) (sym shows.end) (walked es budget room))
