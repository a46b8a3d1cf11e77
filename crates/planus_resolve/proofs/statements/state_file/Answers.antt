use Rattle.std.proofs.Common.{◌≡◌, subst, ◌+◌, ◌++◌, map, drop, ap, sym, ◌∙◌}
use Rattle.std.proofs.lemmas.List.{drop_all}
use Rattle.planus_syntax.specs.Values.{item_of, declarations_of}
use Rattle.std.specs.Global.{Vec}
use Rattle.planus_resolve.specs.declared.fault.Fault.{Fault}
use Rattle.planus_resolve.specs.inner.Read.{AreStated}
use Rattle.planus_resolve.specs.Names.{head_of, path_in, space_after, words_in, space_at, begun_after, begun_in}
use Rattle.planus_resolve.specs.Schemas.{said_of, after, after_file}
use Rattle.planus_resolve.specs.Faults.{first_twenty, statement_faults, fault_in, wrong_said}
use Rattle.planus_resolve.proofs.StructLemmas.{drop_next}
use Rattle.planus_resolve.proofs.FaultLemmas.{adds_none, adds_next, adds_told, adds_nothing, no_fault, no_faults}
use Rattle.planus_resolve.proofs.statements.state_file.Goals.{in-Err+in-Ok-note, in-Ok}
use Rattle.planus_resolve.proofs.statements.state_file.Goals as goal

pub declarations-preserved : goal.declarations-preserved
declarations-preserved c =
    let i = c.declarations.invariant in
    let hs = map head_of c.args.heads.now in
    let known = c.args.known.now in
    let ds = c.args.declarations.now in
    let n = c.declarations.declaration-index in
    let r = drop_next c.args.declarations.now c.declarations.declaration-index c.declaration-item.result c.declarations-test.true c.declaration-item.is in
    let old = c.declarations.faults.items in
    let d = c.declaration-item.result in
    let b = c.declarations.begun in
    let here = space_at (words_in (path_in c.declarations.space)) b in
    let found = fault_in c.args.file (wrong_said hs here known d) in
    let said = after hs here (said_of c.declarations.statements) (item_of d.item) in
    let a : AreStated said found c.declarations.statements c.state.new.statements old c.match-state.faults.items =
    elim c.match-state.branch [
      | in-Err+in-Ok-note w ↦
          let new = w.note.new.faults.items in
          let some = w.in-Ok-note.ensures.some in
          subst (λ (v : Vec Fault). AreStated said found c.declarations.statements c.state.new.statements old v.items) (sym w.faults-is) (record {
            said_now = λ e. no_faults new some e;
            four = λ e f. no_faults new some e;
            noted = record {
              kept = λ e. no_faults new some e;
              most = w.in-Ok-note.ensures.most;
              adds = adds_told c.args.file _ w.in-Err.error old new w.in-Err.ensures.wrong w.in-Ok-note.ensures.told w.in-Ok-note.ensures.adds;
            };
          })
      | in-Ok w ↦
          subst (λ (v : Vec Fault). AreStated said found c.declarations.statements c.state.new.statements old v.items) (sym w.faults-is) (record {
            said_now = λ e. w.in-Ok.ensures.said.0;
            four = λ e f. w.in-Ok.ensures.said.1 f;
            noted = record {
              kept = λ e. e;
              most = i.most;
              adds = adds_nothing old found i.most (no_fault c.args.file _ w.in-Ok.ensures.wrong);
            };
          })
    ] in
    let more : c.in-Ok-begun_after.value ≡ begun_after b (item_of d.item) = c.in-Ok-begun_after.ensures in
    record {
      begun = ap (λ m. begun_in m (declarations_of (drop (n + 1) ds))) more
          ∙ ap (λ ds'. begun_in b (declarations_of ds')) (sym r) ∙ i.begun;
      said = λ e. ap (λ m. after_file hs m (path_in c.space_after-space.result) (said_of c.state.new.statements) (declarations_of (drop (n + 1) ds))) more
          ∙ ap (λ sp. after_file hs (begun_after b (item_of d.item)) sp (said_of c.state.new.statements) (declarations_of (drop (n + 1) ds))) c.space_after-space.ensures
          ∙ ap (λ s. after_file hs (begun_after b (item_of d.item)) (space_after (path_in c.declarations.space) (item_of c.declaration-item.result.item)) s (declarations_of (drop (n + 1) ds))) (a.said_now e)
          ∙ ap (λ ds'. after_file hs b (path_in c.declarations.space) (said_of c.declarations.statements) (declarations_of ds')) (sym r) ∙ i.said (a.noted.kept e);
      four = λ e f. a.four e (i.four (a.noted.kept e) f);
      kept = λ e. i.kept (a.noted.kept e);
      most = a.noted.most;
      adds = ap (λ m. first_twenty (c.match-state.faults.items ++ statement_faults hs known c.args.file m (path_in c.space_after-space.result) (drop (n + 1) ds))) more
          ∙ ap (λ sp. first_twenty (c.match-state.faults.items ++ statement_faults hs known c.args.file (begun_after b (item_of d.item)) sp (drop (n + 1) ds))) c.space_after-space.ensures
          ∙ adds_next c.declarations.faults.items _ c.match-state.faults.items _ _ a.noted.adds
          (ap (λ ds'. first_twenty (c.declarations.faults.items ++ statement_faults hs known c.args.file b (path_in c.declarations.space) ds')) (sym r) ∙ c.declarations.invariant.adds);
    }

pub returns-clause-begun : goal.returns-clause-begun
returns-clause-begun c =
    let d = drop_all c.declarations.declaration-index c.args.declarations.now c.declarations-test.false in
    rw d at c.declarations.invariant.begun

pub returns-clause-stated : goal.returns-clause-stated
returns-clause-stated c =
    let i = c.declarations.invariant in
    let d = drop_all c.declarations.declaration-index c.args.declarations.now c.declarations-test.false in
    record {
      said_now = λ e. rw d at c.declarations.invariant.said e;
      four = i.four;
      noted = record {
        kept = i.kept;
        most = i.most;
        adds = adds_none c.declarations.faults.items i.most
            ∙ ap (λ ds. first_twenty (c.declarations.faults.items ++ statement_faults (map head_of c.args.heads.now) c.args.known.now c.args.file c.declarations.begun (path_in c.declarations.space) ds)) (sym d) ∙ i.adds;
      };
    }
