use Rattle.std.proofs.Common.{◌≡◌, ◌++◌, ◌∷◌, [], map, sym, subst, ◌∙◌}
use Rattle.std.proofs.lemmas.List.{map_push}
use Rattle.planus_syntax.specs.Tokens.{pieces_of}
use Rattle.planus_syntax.specs.Reading.{list_at, with_items}
use Rattle.planus_syntax.proofs.Many.{goes_on, ends, is_done, push_counted}
use Rattle.planus_syntax.specs.Counting.{EachCounted}
use Rattle.planus_syntax.proofs.parse.lists.items_after.Goals as goal

pub returns-in-Err-clause-reads : goal.returns-in-Err-clause-reads
returns-in-Err-clause-reads g c =
    ends g.L.Items.goes_on g.L.Items.item_at c.requires.listed.0 c.in-Err.error (map g.L.Items.value_of c.items.items.items)
    (pieces_of c.items.rest.now) (with_items (map g.L.Items.value_of c.args.items.items) (list_at g.L.Items.goes_on g.L.Items.item_at (pieces_of c.args.tokens.now)))
    (sym c.goes_on.ensures ∙ c.items-test.true) c.in-Err.ensures c.items.invariant.reads

pub items-smaller : goal.items-smaller
items-smaller g c = c.requires.listed.0.shrinks (pieces_of c.items.rest.now)
    ((g.L.Items.value_of c.in-Ok.value.0), pieces_of c.in-Ok.value.1.now) c.in-Ok.ensures.0

pub items-preserved : goal.items-preserved
items-preserved g c =
    let value_of = g.L.Items.value_of in
    let e : map value_of c.push.new.self.items ≡ map value_of c.items.items.items ++ (value_of c.in-Ok.value.0) ∷ [] =
    rw c.in_ok-push.ensures.items (map_push _ c.items.items.items c.in-Ok.value.0) in
    record {
      reads = rw e (goes_on g.L.Items.goes_on g.L.Items.item_at c.requires.listed.0 (map value_of c.items.items.items) (pieces_of c.items.rest.now)
          (value_of c.in-Ok.value.0) (pieces_of c.in-Ok.value.1.now) (with_items (map value_of c.args.items.items) (list_at g.L.Items.goes_on g.L.Items.item_at (pieces_of c.args.tokens.now)))
          (sym c.goes_on.ensures ∙ c.items-test.true) c.in-Ok.ensures.0 c.items.invariant.reads);
      counted = subst (λ items. EachCounted g.L.Items.Counted value_of g.L.Items.before items (pieces_of c.in-Ok.value.1.now)) (sym c.in_ok-push.ensures.items)
          (push_counted g.L.Items.Counted value_of g.L.Items.before c.items.items.items c.in-Ok.value.0 (pieces_of c.items.rest.now) (pieces_of c.in-Ok.value.1.now)
          c.items.invariant.counted (c.requires.listed.1 _ _ c.in-Ok.ensures.0) c.in-Ok.ensures.1);
    }

pub returns-clause-reads : goal.returns-clause-reads
returns-clause-reads g c = (
  is_done g.L.Items.goes_on g.L.Items.item_at c.requires.listed.0 (map g.L.Items.value_of c.items.items.items) (pieces_of c.items.rest.now)
      (with_items (map g.L.Items.value_of c.args.items.items) (list_at g.L.Items.goes_on g.L.Items.item_at (pieces_of c.args.tokens.now)))
      (sym c.goes_on.ensures ∙ c.items-test.false) c.items.invariant.reads,
  c.items.invariant.counted,
)

pub returns-clause-end : goal.returns-clause-end
returns-clause-end g c = sym c.goes_on.ensures ∙ c.items-test.false
