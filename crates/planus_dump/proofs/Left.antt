-- How much a walk leaves of the lines and bytes that are wanted.
use Rattle.std.proofs.Common.{◌≡◌, ℕ, ◌+◌, ◌-◌, ◌≤◌, List, [], ◌∷◌, ◌++◌, length, Bool, true, false, Option, Some, cond, refl, sym, ap, ◌∙◌, subst, arith}
use Rattle.std.specs.Prelude.{nat_lt, ◌==◌}
use Rattle.std.specs.Option.{unwrap_or}
use Rattle.std.specs.List.{list_any}
use Rattle.std.proofs.lemmas.List.{append-nil, append_assoc}
use Rattle.std.proofs.lemmas.Bool.{ltb-false}
use Rattle.planus_dump.specs.Events.{Event, line, faulty, deep, float}
use Rattle.planus_dump.specs.Dumped.{AreShown}
use Rattle.planus_dump.specs.Faults.{is_fault}
use Rattle.planus_dump.specs.Views.{cost, costs, IsTold}
use Rattle.planus_dump.specs.inner.Shown.{Shown, begin, feed, added, by_room}
use Rattle.planus_dump.specs.declared.end.End.{End}
use Rattle.planus_dump.specs.declared.end.End.{End}
use Rattle.planus_dump.specs.declared.end.End.TheVariants.{Whole, TooDeep, TooManyLines, TooManyBytes}
use Rattle.planus_dump.proofs.Feeds.{feed-stopped, shown_length}

abbrev at : List Event → ℕ → ℕ → End → Shown
at ls budget size stop = record { lines = ls; budget = budget; room = Some size; end = stop }

-- these events were taken, and so much is left of the size
record Left (es ls : List Event) (budget size : ℕ) (s : Shown) : Type 0 where
  new : List Event
  rest : List Event
  split : es ≡ new ++ rest
  lines : s.lines ≡ ls ++ new
  budget_is : s.budget ≡ budget
  room : ℕ
  room_is : s.room ≡ Some room
  all : costs new + room ≡ size

none_left : (es ls : List Event) (budget size : ℕ) (stop : End) → Left es ls budget size (at ls budget size stop)
none_left es ls budget size stop = record {
  new = [];
  rest = es;
  split = refl;
  lines = sym (append-nil ls);
  budget_is = refl;
  room = size;
  room_is = refl;
  all = omega arith;
}

stopped : (es all ls : List Event) (budget size : ℕ) (stop : End) → (stop ≡ Whole → ⊥) → Left all ls budget size (feed (at ls budget size stop) es)
stopped es all ls budget size stop is =
    subst (Left all ls budget size) (sym (feed-stopped (at ls budget size stop) es is)) (none_left all ls budget size stop)

more : (e : Event) (es ls : List Event) (budget size : ℕ) (s : Shown) → cost e ≤ size → Left es (ls ++ e ∷ []) budget (size - cost e) s → Left (e ∷ es) ls budget size s
more e es ls budget size s below left = record {
  new = e ∷ left.new;
  rest = left.rest;
  split = ap (λ xs. e ∷ xs) left.split;
  lines = left.lines ∙ append_assoc ls (e ∷ []) left.new;
  budget_is = left.budget_is;
  room = left.room;
  room_is = left.room_is;
  all = let sum = left.all in omega (arith, sum, below);
}

line_left : (e : Event) (es ls : List Event) (budget size : ℕ)
    → (cost e ≤ size → Left es (ls ++ e ∷ []) budget (size - cost e) (feed (at (ls ++ e ∷ []) budget (size - cost e) Whole) es))
    → Left (e ∷ es) ls budget size (feed (added (at ls budget size Whole) e) es)
line_left e es ls budget size rest = by_count (length ls == budget)
  where
    by_size : (b : Bool) → nat_lt size (cost e) ≡ b
        → Left (e ∷ es) ls budget size (feed (cond b (at ls budget size TooManyBytes) (at (ls ++ e ∷ []) budget (size - cost e) Whole)) es)
    by_size true is = stopped es (e ∷ es) ls budget size TooManyBytes (λ x. cc)
    by_size false is =
        let below : cost e ≤ size = ltb-false size (cost e) is in
        more e es ls budget size _ below (rest below)

    by_count : (b : Bool) → Left (e ∷ es) ls budget size (feed (cond b (at ls budget size TooManyLines) (by_room (at ls budget size Whole) e (Some size))) es)
    by_count true = stopped es (e ∷ es) ls budget size TooManyLines (λ x. cc)
    by_count false = by_size (nat_lt size (cost e)) refl

fed_left : (es ls : List Event) (budget size : ℕ) → Left es ls budget size (feed (at ls budget size Whole) es)
fed_left [] ls budget size = none_left [] ls budget size Whole
fed_left (deep ∷ es) ls budget size = stopped es (deep ∷ es) ls budget size TooDeep (λ x. cc)
fed_left (line l ∷ es) ls budget size =
    line_left (line l) es ls budget size (λ below. fed_left es (ls ++ line l ∷ []) budget (size - cost (line l)))
fed_left (faulty l ∷ es) ls budget size =
    line_left (faulty l) es ls budget size (λ below. fed_left es (ls ++ faulty l ∷ []) budget (size - cost (faulty l)))
fed_left (float path number ∷ es) ls budget size =
    line_left (float path number) es ls budget size (λ below. fed_left es (ls ++ float path number ∷ []) budget (size - cost (float path number)))

pub is_told : (es : List Event) (texts : List (List ℕ)) (most size left : ℕ) (room : Option ℕ) (end : End) (fault : Bool)
    → AreShown (feed (begin most (Some size)) es).lines texts
    → length (feed (begin most (Some size)) es).lines + left ≡ (feed (begin most (Some size)) es).budget
    → room ≡ (feed (begin most (Some size)) es).room
    → fault ≡ list_any is_fault (feed (begin most (Some size)) es).lines
    → IsTold es texts most size (record { end = end; has_fault = fault; lines_left = left; bytes_left = unwrap_or room 0 })
is_told es texts most size left room end fault shown count is found =
    let fed = fed_left es [] most size in
    let s = feed (begin most (Some size)) es in
    let many : length texts ≡ length s.lines = shown_length s.lines texts shown in
    let budget : s.budget ≡ most = fed.budget_is in
    let same : unwrap_or room 0 ≡ fed.room = ap (λ r. unwrap_or r 0) (is ∙ fed.room_is) in
    let sum = fed.all in
    record {
      rest = fed.rest;
      begin = record { front = fed.new; split = fed.split; shown = subst (λ ls. AreShown ls texts) fed.lines shown };
      fault = found ∙ ap (λ ls. list_any is_fault ls) fed.lines;
      lines_left = omega (arith, many, count, budget);
      bytes_left = omega (arith, sum, same);
    }
