use Rattle.std.proofs.Common.{rules, arith, sym, ◌∙◌}
use Rattle.planus_syntax.proofs.Quotes.{cut_off, cut_shorter, cut_read, cut_refused, cut_leads, none_cut, none_left}
use Rattle.planus_syntax.proofs.lexer.string_at.Goals as goal

pub overflow_sub-bytes : goal.overflow_sub-bytes
overflow_sub-bytes c =
    let h = cut_shorter c.in-Some.quote.now c.args.bytes.now c.in-Some.body.now c.in-Ok.rest.now (search rules) c.in-Ok.ensures in
    omega arith

pub returns-then-is_utf8 : goal.returns-then-is_utf8
returns-then-is_utf8 c =
    let cut = cut_off c.in-Some.quote.now c.args.bytes.now c.in-Some.body.now c.in-Ok.rest.now c.split_at.result.0.now (search rules) c.requires c.in-Ok.ensures c.split_at.ensures.front in
    let utf8 = sym c.is_utf8.ensures ∙ c.if-is_utf8.true in
    record {
      cuts = cut_read c.args.bytes.now c.split_at.result.0.now c.in-Ok.rest.now cut utf8;
      starts = cut_leads c.args.bytes.now c.split_at.result.0.now c.in-Ok.rest.now cut utf8;
      shorter = cut_shorter c.in-Some.quote.now c.args.bytes.now c.in-Some.body.now c.in-Ok.rest.now (search rules) c.in-Ok.ensures;
      within = tt;
    }

pub returns-else-is_utf8 : goal.returns-else-is_utf8
returns-else-is_utf8 c =
    let cut = cut_off c.in-Some.quote.now c.args.bytes.now c.in-Some.body.now c.in-Ok.rest.now c.split_at.result.0.now (search rules) c.requires c.in-Ok.ensures c.split_at.ensures.front in
    let h = cut_shorter c.in-Some.quote.now c.args.bytes.now c.in-Some.body.now c.in-Ok.rest.now (search rules) c.in-Ok.ensures in
    record {
      cuts = cut_refused c.args.bytes.now c.split_at.result.0.now c.in-Ok.rest.now cut (sym c.is_utf8.ensures ∙ c.if-is_utf8.false);
      starts = tt;
      shorter = tt;
      within = omega arith;
    }

pub returns-in-Err-clause-cuts : goal.returns-in-Err-clause-cuts
returns-in-Err-clause-cuts c =
    none_cut c.in-Some.quote.now c.args.bytes.now c.in-Some.body.now c.in-Err.placed.fault c.in-Err.placed.left (search rules) c.requires c.in-Err.ensures

pub returns-in-Err-clause-within : goal.returns-in-Err-clause-within
returns-in-Err-clause-within c =
    none_left c.in-Some.quote.now c.args.bytes.now c.in-Some.body.now c.in-Err.placed.fault c.in-Err.placed.left (search rules) c.in-Err.ensures
