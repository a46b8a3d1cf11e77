use Rattle.std.proofs.Common.{◌++◌, ap, sym, ◌∙◌, map, append_assoc}
use Rattle.std.proofs.lemmas.List.{append-nil, drop_all}
use Rattle.planus_resolve.specs.Names.{path_in}
use Rattle.planus_resolve.specs.Uses.{event_of, declarations_used}
use Rattle.planus_resolve.proofs.StructLemmas.{drop_next}
use Rattle.planus_resolve.proofs.uses.put_declarations.Goals as goal

pub declarations-preserved : goal.declarations-preserved
declarations-preserved c =
    let out = map event_of c.declarations.out.items in
    let r = drop_next c.args.declarations.now c.declarations.declaration-index c.declaration-item.result c.declarations-test.true c.declaration-item.is in
    rw (c.in-Ok.ensures, c.space_after-space.ensures) (append_assoc out _ _
    ∙ ap (λ ds. out ++ declarations_used c.args.file (path_in c.declarations.space) ds) (sym r) ∙ c.declarations.invariant)

pub returns : goal.returns
returns c =
    let d = drop_all c.declarations.declaration-index c.args.declarations.now c.declarations-test.false in
    sym (append-nil (map event_of c.declarations.out.items)) ∙ rw d at c.declarations.invariant
