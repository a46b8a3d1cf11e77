use Rattle.std.proofs.Common.{◌≡◌, ◌-◌, ◌∷◌, ap, sym, ◌∙◌, slice_get, arith}
use Rattle.planus_dump.specs.ReadingViews.{unions_seen}
use Rattle.planus_json.specs.Json.{begins, tokens, items_tokens}
use Rattle.planus_json.specs.Trees.{type_tree, types_trees}
use Rattle.planus_json.proofs.Printing.{loop_failed, loop_on, loop_done, goes_begin}
use Rattle.planus_json.proofs.TableTrees.{types-split, types-none}
use Rattle.planus_json.proofs.unions.print_types_items.Goals as goal

pub loop-i-init : goal.loop-i-init
loop-i-init c =
    let seen = unions_seen c.args.unions.now in let whole : seen.count ≡ seen.count - 0 = omega arith in
    goes_begin c.args.out.now _ _ (ap (λ k. items_tokens c.args.line.now (types_trees c.args.schema.now c.args.index seen k 0)) whole)

pub loop-i-preserved : goal.loop-i-preserved
loop-i-preserved c =
    let schema = c.args.schema.now in let line = c.args.line.now in let i = c.loop-i.i in let seen = unions_seen c.args.unions.now in
    loop_on _ _ _ _ _ _ _ c.loop-i.invariant
    (c.in_ok-print_types_item-in-Some.ensures _ (ap (λ tag. begins line ∷ tokens line (type_tree (slice_get schema.unions.items c.args.index) tag)) (sym (c.tag.ensures ∙ c.in-Some.ensures.1.tag))))
    (types-split schema line c.args.index seen seen.count i (omega (arith, c.in-Some.ensures.0)))

pub returns-in_err-print_types_item-in-Some : goal.returns-in_err-print_types_item-in-Some
returns-in_err-print_types_item-in-Some c = λ ps same.
    let schema = c.args.schema.now in let line = c.args.line.now in let i = c.loop-i.i in let seen = unions_seen c.args.unions.now in
    loop_failed _ _ _ _ _ _ _ _ _ _ _ c.from_residual.ensures.1 c.loop-i.invariant
    (c.in_err-print_types_item-in-Some.ensures _ (ap (λ tag. begins line ∷ tokens line (type_tree (slice_get schema.unions.items c.args.index) tag)) (sym (c.tag.ensures ∙ c.in-Some.ensures.1.tag))))
    (types-split schema line c.args.index seen seen.count i (omega (arith, c.in-Some.ensures.0))) same

pub returns : goal.returns
returns c = λ ps same.
    let seen = unions_seen c.args.unions.now in
    loop_done c.loop-i.invariant (types-none c.args.schema.now c.args.line.now c.args.index seen (seen.count - c.loop-i.i) c.loop-i.i (omega (arith, c.loop-i-test.false, c.len-i-end.ensures))) same
