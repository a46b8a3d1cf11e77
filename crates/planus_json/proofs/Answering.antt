-- What a walk prints from the start on is the answer.
use Rattle.std.proofs.Common.{◌≡◌, ℕ, ◌+◌, List, [], ◌++◌, length, Ok, Err, Result, sym, ap, ◌∙◌, subst, arith, true}
use Rattle.std.specs.Prelude.{String}
use Rattle.std.specs.Result.{IsErrAnd}
use Rattle.std.proofs.lemmas.Result.{err_from_is_err_and}
use Rattle.std.specs.String.{string_bytes}
use Rattle.std.specs.declared.alloc.Global.{Global}
use Rattle.planus_dump.specs.Schemas.{is_good}
use Rattle.planus_dump.specs.declared.schemas.Schema.{Schema}
use Rattle.planus_json.specs.Json.{Token, AreShown, are_first}
use Rattle.planus_json.specs.Outcomes.{EndsAt, StopsAt, AnswersTokens, IsJson, json_tokens}
use Rattle.planus_json.specs.inner.Printing.{size_of, Halts, Ends, Printed}
use Rattle.planus_json.specs.declared.layout.Layout.{Layout}
use Rattle.planus_json.specs.declared.printer.Printer.{Printer}
use Rattle.planus_json.specs.declared.json_error.JsonError.{JsonError}
use Rattle.planus_json.specs.declared.json_error.JsonError.TheVariants as errors

module _ (old : Printer) (given : List Token) (none : string_bytes old.text ≡ []) (start : old.first ≡ true) where
  no_size : size_of old ≡ 0
  no_size = ap length none

  stops : (error : JsonError) → Halts old given error → StopsAt old.strict given old.most error
  stops error h =
      let size : size_of old + length h.text ≡ length h.text = omega (arith, no_size) in
      record {
        front = h.front;
        next = h.next;
        rest = h.rest;
        text = h.text;
        split = h.split;
        shown = subst (λ first. AreShown old.strict first h.front h.text) start h.shown;
        fits = omega (arith, size, h.short (omega (arith, no_size)));
        ends = subst (λ first. EndsAt old.strict (are_first first h.front) h.next (length h.text) old.most error) start
            (subst (λ n. EndsAt old.strict (are_first old.first h.front) h.next n old.most error) size h.ends);
      }

  pub whole : (new : Printer) → Printed old given (Ok (tt {0})) new → AnswersTokens old.strict given old.most (Ok new.text)
  unfolding Printed
  whole new adds =
      let same : string_bytes new.text ≡ adds.text = adds.added ∙ ap (λ xs. xs ++ adds.text) none in (
        subst (AreShown old.strict true given) (sym same) (subst (λ first. AreShown old.strict first given adds.text) start adds.shown),
        omega (arith, adds.short (omega (arith, no_size)), adds.most),
      )

module _ (schema : Schema) (bytes : List ℕ) (layout : Layout) (most : ℕ) (good : is_good schema ≡ true) (old : Printer) (none : string_bytes old.text ≡ []) (start : old.first ≡ true) (strict : old.strict ≡ layout.strict)
    (limit : old.most ≡ most) where
  pub whole_json : (new : Printer) → Printed old (json_tokens layout schema bytes) (Ok (tt {0})) new → IsJson schema bytes layout most (Ok new.text)
  whole_json new printed = (
    good,
    subst (λ most. AnswersTokens layout.strict (json_tokens layout schema bytes) most (Ok new.text)) limit
        (subst (λ strict. AnswersTokens strict (json_tokens layout schema bytes) old.most (Ok new.text)) strict (whole old (json_tokens layout schema bytes) none start new printed)),
  )

  stops_so : (error : JsonError) → Halts old (json_tokens layout schema bytes) error → StopsAt layout.strict (json_tokens layout schema bytes) most error
  stops_so error h =
      subst (λ most. StopsAt layout.strict (json_tokens layout schema bytes) most error) limit
      (subst (λ strict. StopsAt strict (json_tokens layout schema bytes) old.most error) strict (stops old (json_tokens layout schema bytes) none start error h))

  ends_json : (error : JsonError) → Ends old (json_tokens layout schema bytes) error → IsJson schema bytes layout most (Err error)
  unfolding stops_so
  ends_json errors.OutOfMemory h = (good, tt)
  ends_json errors.BadSchema h = absurd h.ends
  ends_json errors.TooDeep h = (good, stops_so errors.TooDeep h)
  ends_json errors.TooLong h = (good, stops_so errors.TooLong h)
  ends_json (errors.Fault fault) h = (good, stops_so (errors.Fault fault) h)

  printed_ends : (error : JsonError) (new : Printer) → Printed old (json_tokens layout schema bytes) (Err error) new → Ends old (json_tokens layout schema bytes) error
  unfolding Printed
  printed_ends error new printed = printed

  pub error_json : (error : JsonError) (new : Printer) (r : Result (String Global) JsonError) → IsErrAnd r (λ e. e ≡ error) → Printed old (json_tokens layout schema bytes) (Err error) new → IsJson schema bytes layout most r
  error_json error new r is printed =
      let (e, same, this) = err_from_is_err_and r is in
      subst (IsJson schema bytes layout most) (sym (same ∙ ap Err this)) (ends_json error (printed_ends error new printed))
