-- What a walk prints, one call after another.
use Rattle.std.proofs.Common.{◌≡◌, ℕ, ◌+◌, List, [], ◌∷◌, ◌++◌, length, Ok, Err, refl, sym, ap, ◌∙◌, subst, arith, length-append, Bool}
use Rattle.std.proofs.lemmas.List.{append_assoc, append-nil}
use Rattle.std.specs.Result.{IsErrAnd}
use Rattle.std.proofs.lemmas.Result.{err_from_is_err_and}
use Rattle.std.specs.String.{string_bytes}
use Rattle.planus_json.specs.Json.{Token, Shows, AreShown, is_first, are_first, opens, closes, begins, plain, label, inner, tokens, items_tokens, members_tokens}
use Rattle.planus_json.specs.Trees.{Tree, Trees, Members, list, object}
use Rattle.planus_json.specs.Outcomes.{EndsAt}
use Rattle.planus_json.specs.inner.Printing.{size_of, IsShort, Adds, Halts, Ends, PrintResult, Printed, IsEnded}
use Rattle.planus_json.specs.declared.printer.Printer.{Printer}
use Rattle.planus_json.specs.declared.json_error.JsonError.{JsonError}
use Rattle.planus_json.specs.declared.json_error.JsonError.TheVariants as errors

pub shown-append : (strict first : Bool) (ps qs : List Token) (t u : List ℕ) → AreShown strict first ps t → AreShown strict (are_first first ps) qs u → AreShown strict first (ps ++ qs) (t ++ u)
shown-append strict first [] qs t u none others = subst (λ xs. AreShown strict first qs (xs ++ u)) (sym none) others
shown-append strict first (p ∷ ps) qs t u (front, rest, split, one, more) others =
    (front, rest ++ u, ap (λ xs. xs ++ u) split ∙ append_assoc front rest u, one, shown-append strict (is_first first p) ps qs rest u more others)

pub first-append : (first : Bool) (ps qs : List Token) → are_first first (ps ++ qs) ≡ are_first (are_first first ps) qs
first-append first [] qs = refl
first-append first (p ∷ ps) qs = first-append (is_first first p) ps qs

pub shown-one : (strict first : Bool) (p : Token) (t : List ℕ) → Shows strict first p t → AreShown strict first (p ∷ []) t
shown-one strict first p t one = (t, [], sym (append-nil t), one, refl)

-- ---- one token

halts_ends : (old : Printer) (given : List Token) (error : JsonError) → Halts old given error → Ends old given error
halts_ends old given errors.OutOfMemory h = tt
halts_ends old given errors.BadSchema h = h
halts_ends old given errors.TooDeep h = h
halts_ends old given errors.TooLong h = h
halts_ends old given (errors.Fault fault) h = h

pub printed_one : (old mid new : Printer) (p : Token) (t : List ℕ) (first : Bool) (r : PrintResult) → Shows old.strict old.first p t → string_bytes mid.text ≡ string_bytes old.text ++ t
    → mid.most ≡ old.most → mid.strict ≡ old.strict → first ≡ is_first old.first p → IsEnded mid first r new → Printed old (p ∷ []) r new
unfolding Printed
printed_one old mid new p t first (Ok u) one added most strict is ended = record {
  text = t;
  shown = shown-one old.strict old.first p t one;
  added = ap (λ (out : Printer). string_bytes out.text) ended.0 ∙ added;
  first = ap (λ (out : Printer). out.first) ended.0 ∙ is;
  strict = ap (λ (out : Printer). out.strict) ended.0 ∙ strict;
  most = ap (λ (out : Printer). out.most) ended.0 ∙ most;
  short = λ h. subst IsShort (sym ended.0) ended.1;
}
printed_one old mid new p t first (Err error) one added most strict is ended =
    let size : size_of mid ≡ size_of old + length t = ap length added ∙ length-append (string_bytes old.text) t in
    subst (Ends old (p ∷ [])) (sym ended.0) (record {
      front = [];
      next = p;
      rest = [];
      text = [];
      split = refl;
      shown = refl;
      short = λ h. omega (arith, h);
      ends = (t, one, omega (arith, ended.1, size, most));
    })

pub printed_fault : (old : Printer) (p : Token) (error : JsonError) (new : Printer) → EndsAt old.strict old.first p (size_of old + 0) old.most error → Printed old (p ∷ []) (Err error) new
unfolding Printed
printed_fault old p error new ends =
    halts_ends old (p ∷ []) error (record { front = []; next = p; rest = []; text = []; split = refl; shown = refl; short = λ h. omega (arith, h); ends = ends })

-- ---- several

pub printed_none : (old : Printer) (ps : List Token) → ps ≡ [] → Printed old ps (Ok (tt {0})) old
unfolding Printed
printed_none old ps none = subst (λ ps. Adds old ps old) (sym none)
    (record { text = []; shown = refl; added = sym (append-nil (string_bytes old.text)); first = refl; strict = refl; most = refl; short = λ h. h })

-- memory was refused
pub printed_refused : (old new : Printer) (ps : List Token) (r : PrintResult) → r ≡ Err errors.OutOfMemory → Printed old ps r new
unfolding Printed
printed_refused old new ps r is = subst (λ r. Printed old ps r new) (sym is) tt

pub printed_as : (old new : Printer) (ps qs : List Token) (r : PrintResult) → Printed old ps r new → qs ≡ ps → Printed old qs r new
printed_as old new ps qs r printed same = subst (λ ps. Printed old ps r new) (sym same) printed

more_adds : (old mid new : Printer) (ps qs : List Token) → Adds old ps mid → Adds mid qs new → Adds old (ps ++ qs) new
more_adds old mid new ps qs a b = record {
  text = a.text ++ b.text;
  shown = shown-append old.strict old.first ps qs a.text b.text a.shown (subst (λ first. AreShown old.strict first qs b.text) a.first (subst (λ strict. AreShown strict mid.first qs b.text) a.strict b.shown));
  added = b.added ∙ ap (λ xs. xs ++ b.text) a.added ∙ append_assoc (string_bytes old.text) a.text b.text;
  first = b.first ∙ ap (λ first. are_first first qs) a.first ∙ sym (first-append old.first ps qs);
  strict = b.strict ∙ a.strict;
  most = b.most ∙ a.most;
  short = λ h. b.short (a.short h);
}

more_halts : (old mid : Printer) (ps qs : List Token) (error : JsonError) → Adds old ps mid → Halts mid qs error → Halts old (ps ++ qs) error
more_halts old mid ps qs error a h =
    let size : size_of mid ≡ size_of old + length a.text = ap length a.added ∙ length-append (string_bytes old.text) a.text in
    let all : size_of old + length (a.text ++ h.text) ≡ size_of mid + length h.text = omega (arith, size, length-append a.text h.text) in
    let first : are_first mid.first h.front ≡ are_first old.first (ps ++ h.front) = ap (λ first. are_first first h.front) a.first ∙ sym (first-append old.first ps h.front) in
    record {
      front = ps ++ h.front;
      next = h.next;
      rest = h.rest;
      text = a.text ++ h.text;
      split = ap (λ xs. ps ++ xs) h.split ∙ sym (append_assoc ps h.front (h.next ∷ h.rest));
      shown = shown-append old.strict old.first ps h.front a.text h.text a.shown
          (subst (λ first. AreShown old.strict first h.front h.text) a.first (subst (λ strict. AreShown strict mid.first h.front h.text) a.strict h.shown));
      short = λ s. omega (arith, all, h.short (a.short s), a.most);
      ends = subst (λ n. EndsAt old.strict (are_first old.first (ps ++ h.front)) h.next n old.most error) (sym all)
          (subst (λ most. EndsAt old.strict (are_first old.first (ps ++ h.front)) h.next (size_of mid + length h.text) most error) a.most
          (subst (λ first. EndsAt old.strict first h.next (size_of mid + length h.text) mid.most error) first
          (subst (λ strict. EndsAt strict (are_first mid.first h.front) h.next (size_of mid + length h.text) mid.most error) a.strict h.ends)));
    }

more_ends : (old mid : Printer) (ps qs : List Token) (error : JsonError) → Adds old ps mid → Ends mid qs error → Ends old (ps ++ qs) error
unfolding more_halts
more_ends old mid ps qs errors.OutOfMemory a h = tt
more_ends old mid ps qs errors.BadSchema a h = more_halts old mid ps qs errors.BadSchema a h
more_ends old mid ps qs errors.TooDeep a h = more_halts old mid ps qs errors.TooDeep a h
more_ends old mid ps qs errors.TooLong a h = more_halts old mid ps qs errors.TooLong a h
more_ends old mid ps qs (errors.Fault fault) a h = more_halts old mid ps qs (errors.Fault fault) a h

less_halts : (old : Printer) (ps qs : List Token) (error : JsonError) → Halts old ps error → Halts old (ps ++ qs) error
less_halts old ps qs error h = record {
  front = h.front;
  next = h.next;
  rest = h.rest ++ qs;
  text = h.text;
  split = ap (λ xs. xs ++ qs) h.split ∙ append_assoc h.front (h.next ∷ h.rest) qs;
  shown = h.shown;
  short = h.short;
  ends = h.ends;
}

less_ends : (old : Printer) (ps qs : List Token) (error : JsonError) → Ends old ps error → Ends old (ps ++ qs) error
unfolding less_halts
less_ends old ps qs errors.OutOfMemory h = tt
less_ends old ps qs errors.BadSchema h = less_halts old ps qs errors.BadSchema h
less_ends old ps qs errors.TooDeep h = less_halts old ps qs errors.TooDeep h
less_ends old ps qs errors.TooLong h = less_halts old ps qs errors.TooLong h
less_ends old ps qs (errors.Fault fault) h = less_halts old ps qs (errors.Fault fault) h

pub printed_then : (old mid new : Printer) (ps qs : List Token) (r : PrintResult) → Printed old ps (Ok (tt {0})) mid → Printed mid qs r new → Printed old (ps ++ qs) r new
unfolding Printed
printed_then old mid new ps qs (Ok u) first second = more_adds old mid new ps qs first second
printed_then old mid new ps qs (Err error) first second = more_ends old mid ps qs error first second

pub printed_broken : (old mid new : Printer) (ps qs : List Token) (error : JsonError) → Printed old ps (Err error) mid → Printed old (ps ++ qs) (Err error) new
unfolding Printed
printed_broken old mid new ps qs error first = less_ends old ps qs error first

-- A call's error is returned.
pub printed_failed : (old mid new : Printer) (ps qs : List Token) (error : JsonError) (r : PrintResult) → IsErrAnd r (λ e. e ≡ error) → Printed old ps (Err error) mid → Printed old (ps ++ qs) r new
printed_failed old mid new ps qs error r is first =
    let (e, same, this) = err_from_is_err_and r is in
    subst (λ r. Printed old (ps ++ qs) r new) (sym (same ∙ ap Err this)) (printed_broken old mid new ps qs error first)

-- ---- a loop

-- All of the tokens but the rest were printed.
pub record Goes (old : Printer) (all rest : List Token) (mid : Printer) : Type 0 where
  pub done : List Token
  pub split : all ≡ done ++ rest
  pub printed : Printed old done (Ok (tt {0})) mid

pub goes_begin : (old : Printer) (all rest : List Token) → all ≡ rest → Goes old all rest old
goes_begin old all rest same = record { done = []; split = same; printed = printed_none old [] refl }

pub goes_on : (old mid new : Printer) (all rest next after : List Token) → Goes old all rest mid → rest ≡ next ++ after → Printed mid next (Ok (tt {0})) new → Goes old all after new
goes_on old mid new all rest next after goes split printed = record {
  done = goes.done ++ next;
  split = goes.split ∙ ap (λ ps. goes.done ++ ps) split ∙ sym (append_assoc goes.done next after);
  printed = printed_then old mid new goes.done next (Ok (tt {0})) goes.printed printed;
}

pub goes_done : (old mid : Printer) (all rest : List Token) → Goes old all rest mid → rest ≡ [] → Printed old all (Ok (tt {0})) mid
goes_done old mid all rest goes none =
    subst (λ ps. Printed old ps (Ok (tt {0})) mid) (sym (goes.split ∙ ap (λ ps. goes.done ++ ps) none ∙ append-nil goes.done)) goes.printed

pub goes_broken : (old mid n new : Printer) (all rest next after : List Token) (error : JsonError) → Goes old all rest mid → rest ≡ next ++ after → Printed mid next (Err error) n → Printed old all (Err error) new
goes_broken old mid n new all rest next after error goes split printed =
    subst (λ ps. Printed old ps (Err error) new) (sym (goes.split ∙ ap (λ ps. goes.done ++ ps) split))
    (printed_then old mid new goes.done (next ++ after) (Err error) goes.printed (printed_broken mid n new next after error printed))

pub goes_failed : (old mid n new : Printer) (all rest next after : List Token) (error : JsonError) (r : PrintResult) → IsErrAnd r (λ e. e ≡ error) → Goes old all rest mid → rest ≡ next ++ after → Printed mid next (Err error) n → Printed old all r new
goes_failed old mid n new all rest next after error r is goes split printed =
    let (e, same, this) = err_from_is_err_and r is in
    subst (λ r. Printed old all r new) (sym (same ∙ ap Err this)) (goes_broken old mid n new all rest next after error goes split printed)

-- ---- calls in a row

-- the first fails
pub first_failed : (old a new : Printer) (p rest ps : List Token) (error : JsonError) (r : PrintResult) → IsErrAnd r (λ e. e ≡ error) → Printed old p (Err error) a → ps ≡ p ++ rest → Printed old ps r new
first_failed old a new p rest ps error r is first same = printed_as old new (p ++ rest) ps r (printed_failed old a new p rest error r is first) same

-- the second does
pub second_failed : (old a b new : Printer) (p q rest ps : List Token) (error : JsonError) (r : PrintResult) → IsErrAnd r (λ e. e ≡ error) → Printed old p (Ok (tt {0})) a → Printed a q (Err error) b → ps ≡ p ++ (q ++ rest) → Printed old ps r new
second_failed old a b new p q rest ps error r is first second same =
    printed_as old new (p ++ (q ++ rest)) ps r (printed_then old a new p (q ++ rest) r first (printed_failed a b new q rest error r is second)) same

pub two : (old a new : Printer) (p q ps : List Token) (r : PrintResult) → Printed old p (Ok (tt {0})) a → Printed a q r new → ps ≡ p ++ q → Printed old ps r new
two old a new p q ps r first second same = printed_as old new (p ++ q) ps r (printed_then old a new p q r first second) same

pub three : (old a b new : Printer) (p q s ps : List Token) (r : PrintResult) → Printed old p (Ok (tt {0})) a → Printed a q (Ok (tt {0})) b → Printed b s r new → ps ≡ p ++ (q ++ s) → Printed old ps r new
three old a b new p q s ps r first second third same =
    printed_as old new (p ++ (q ++ s)) ps r (printed_then old a new p (q ++ s) r first (printed_then a b new q s r second third)) same

pub loop_failed : (old mid n new : Printer) (all rest next after ps : List Token) (error : JsonError) (r : PrintResult) → IsErrAnd r (λ e. e ≡ error) → Goes old all rest mid → Printed mid next (Err error) n → rest ≡ next ++ after → ps ≡ all → Printed old ps r new
loop_failed old mid n new all rest next after ps error r is goes printed split same = printed_as old new all ps r (goes_failed old mid n new all rest next after error r is goes split printed) same

pub loop_on : (old mid new : Printer) (all rest next after : List Token) → Goes old all rest mid → Printed mid next (Ok (tt {0})) new → rest ≡ next ++ after → Goes old all after new
loop_on old mid new all rest next after goes printed split = goes_on old mid new all rest next after goes split printed

pub loop_done : {old mid : Printer} {all rest ps : List Token} → Goes old all rest mid → rest ≡ [] → ps ≡ all → Printed old ps (Ok (tt {0})) mid
loop_done {old} {mid} {all} {rest} {ps} goes none same = printed_as old mid all ps (Ok (tt {0})) (goes_done old mid all rest goes none) same

-- what stands before a member's value
abbrev pub named : List ℕ → List ℕ → List Token
named line name = begins line ∷ plain (label line name) ∷ []

pub list_tokens : (line l : List ℕ) (t : Tree) (ts : Trees) → t ≡ list ts → l ≡ inner line → tokens line t ≡ opens 91 ∷ (items_tokens l ts ++ closes line 93 ∷ [])
list_tokens line l t ts is same = ap (tokens line) is ∙ ap (λ l. opens 91 ∷ (items_tokens l ts ++ closes line 93 ∷ [])) (sym same)

pub object_tokens : (line l : List ℕ) (t : Tree) (ms : Members) → t ≡ object ms → l ≡ inner line → tokens line t ≡ opens 123 ∷ (members_tokens l ms ++ closes line 125 ∷ [])
object_tokens line l t ms is same = ap (tokens line) is ∙ ap (λ l. opens 123 ∷ (members_tokens l ms ++ closes line 125 ∷ [])) (sym same)
