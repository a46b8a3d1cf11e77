use Rattle.std.proofs.Common.{◌++◌, ap, sym, ◌∙◌, map, append_assoc}
use Rattle.std.proofs.lemmas.List.{append-nil, drop_all}
use Rattle.planus_syntax.specs.Values.{declarations_of}
use Rattle.planus_resolve.specs.Names.{path_in, head_of, heads_in}
use Rattle.planus_resolve.specs.Faults.{placed_of, placed_in}
use Rattle.planus_resolve.proofs.StructLemmas.{drop_next}
use Rattle.planus_resolve.proofs.head.add_heads.Goals as goal

pub declarations-preserved : goal.declarations-preserved
declarations-preserved c =
    let i = c.declarations.invariant in
    let heads = map head_of c.declarations.heads.items in
    let placed = map placed_of c.declarations.heads.items in
    let r = drop_next c.args.declarations.now c.declarations.declaration-index c.declaration-item.result c.declarations-test.true c.declaration-item.is in
    record {
      heads = rw (c.in-Ok.ensures.heads, c.space_after-space.ensures) (append_assoc heads _ _
          ∙ ap (λ ds. heads ++ heads_in c.args.file (path_in c.declarations.space) (declarations_of ds)) (sym r) ∙ i.heads);
      placed = rw (c.in-Ok.ensures.placed, c.space_after-space.ensures) (append_assoc placed _ _
          ∙ ap (λ ds. placed ++ placed_in c.args.file (path_in c.declarations.space) ds) (sym r) ∙ i.placed);
    }

pub returns-clause-heads : goal.returns-clause-heads
returns-clause-heads c =
    let d = drop_all c.declarations.declaration-index c.args.declarations.now c.declarations-test.false in
    sym (append-nil (map head_of c.declarations.heads.items)) ∙ rw d at c.declarations.invariant.heads

pub returns-clause-placed : goal.returns-clause-placed
returns-clause-placed c =
    let d = drop_all c.declarations.declaration-index c.args.declarations.now c.declarations-test.false in
    sym (append-nil (map placed_of c.declarations.heads.items)) ∙ rw d at c.declarations.invariant.placed
