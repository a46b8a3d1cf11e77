use Rattle.std.proofs.Common.{◌≡◌, ◌++◌, ◌∷◌, [], map, arith, sym, ap, ◌∙◌, subst, Ok}
use Rattle.std.proofs.lemmas.List.{map_push}
use Rattle.std.specs.Option.{option_map}
use Rattle.std.specs.Prelude.{IfSome}
use Rattle.planus_json_syntax.specs.Tokens.{next}
use Rattle.planus_json_syntax.specs.Reading as spec
use Rattle.planus_json_syntax.specs.Values.{json_view}
use Rattle.planus_json_syntax.specs.Steps.{FitsIn, front_view}
use Rattle.planus_json_syntax.proofs.Lists.{MoreValues}
use Rattle.planus_json_syntax.proofs.Lists.{same_error, no_next, at_text_end, no_value, next_value}
use Rattle.planus_json_syntax.proofs.text.values_at.Goals as goal

pub returns-in-Err-clause-reads : goal.returns-in-Err-clause-reads
returns-in-Err-clause-reads c =
    same_error c.in-Err.error (next c.values.rest.now) (spec.values_at c.args.len c.args.bytes.now) (no_next c.args.len (map json_view c.values.values.items) c.values.rest.now (spec.values_at c.args.len c.args.bytes.now) c.values.invariant.reads) c.in-Err.ensures.reads

pub returns-in-Err-value_at-clause-reads : goal.returns-in-Err-value_at-clause-reads
returns-in-Err-value_at-clause-reads c =
    same_error c.in-Err-value_at.error (spec.value_at c.args.len 256 (front_view c.in-Some.front)) (spec.values_at c.args.len c.args.bytes.now)
    (no_value c.args.len (map json_view c.values.values.items) c.values.rest.now (spec.values_at c.args.len c.args.bytes.now) c.values.invariant.reads (front_view c.in-Some.front) (c.in-Ok.ensures.reads ∙ ap (λ found. Ok (option_map front_view found)) c.in-Some.is)) c.in-Err-value_at.ensures.reads

pub values-preserved : goal.values-preserved
values-preserved c =
    let fits : FitsIn c.in-Some.front c.values.rest.now = subst (λ found. IfSome found (λ front. FitsIn front c.values.rest.now)) c.in-Some.is c.in-Ok.ensures.fits in
    let pushed : map json_view c.push.new.self.items ≡ map json_view c.values.values.items ++ json_view c.in-Ok-value_at.value.0 ∷ [] =
    rw c.in_ok-push.ensures.items (map_push json_view c.values.values.items c.in-Ok-value_at.value.0) in
    record {
      reads = subst (λ found. MoreValues c.args.len found c.in-Ok-value_at.value.1.now (spec.values_at c.args.len c.args.bytes.now)) (sym pushed)
          (next_value c.args.len (map json_view c.values.values.items) c.values.rest.now (spec.values_at c.args.len c.args.bytes.now) c.values.invariant.reads (front_view c.in-Some.front) (c.in-Ok.ensures.reads ∙ ap (λ found. Ok (option_map front_view found)) c.in-Some.is)
          (json_view c.in-Ok-value_at.value.0) c.in-Ok-value_at.value.1.now c.in-Ok-value_at.ensures.reads (omega (arith, fits.begins, c.in-Ok-value_at.ensures.shorter, c.values.invariant.shorter)));
      shorter = omega (arith, fits.begins, c.in-Ok-value_at.ensures.shorter, c.values.invariant.shorter);
    }

pub returns-clause-reads : goal.returns-clause-reads
returns-clause-reads c =
    at_text_end c.args.len (map json_view c.values.values.items) c.values.rest.now (spec.values_at c.args.len c.args.bytes.now) c.values.invariant.reads (c.in-Ok.ensures.reads ∙ ap (λ found. Ok (option_map front_view found)) c.in_default.is)
