use Rattle.std.proofs.Common.{◌+◌, ◌++◌, ap, sym, ◌∙◌, map, append_assoc, arith}
use Rattle.std.proofs.lemmas.List.{append-nil, drop_all}
use Rattle.std.specs.Global.{Vec}
use Rattle.planus_syntax.specs.Values.{declarations_of}
use Rattle.planus_syntax.specs.declared.value.Declaration.{Declaration}
use Rattle.planus_resolve.specs.Names.{head_of, heads_from}
use Rattle.planus_resolve.specs.Faults.{placed_of, placed_from}
use Rattle.planus_resolve.proofs.StructLemmas.{drop_next}
use Rattle.planus_resolve.proofs.head.heads.Goals as goal

pub overflow_add-file : goal.overflow_add-file
overflow_add-file c = omega arith

pub files-preserved : goal.files-preserved
files-preserved c =
    let i = c.files.invariant in
    let heads = map head_of c.files.heads.items in
    let placed = map placed_of c.files.heads.items in
    let r = drop_next c.args.files.now c.files.declarations-index c.declarations-item.result c.files-test.true c.declarations-item.is in
    record {
      index = ap (λ n. n + 1) i.index;
      all = rw (c.in-Ok.ensures.heads, c.deref.ensures.value) (append_assoc heads _ _
          ∙ ap (λ fs. heads ++ heads_from c.files.file (map (λ (f : Vec Declaration). declarations_of f.items) fs)) (sym r) ∙ i.all);
      placed = rw (c.in-Ok.ensures.placed, c.deref.ensures.value) (append_assoc placed _ _
          ∙ ap (λ fs. placed ++ placed_from c.files.file fs) (sym r) ∙ i.placed);
    }

pub returns-clause-heads : goal.returns-clause-heads
returns-clause-heads c =
    let d = drop_all c.files.declarations-index c.args.files.now c.files-test.false in
    sym (append-nil (map head_of c.files.heads.items)) ∙ rw d at c.files.invariant.all

pub returns-clause-placed : goal.returns-clause-placed
returns-clause-placed c =
    let d = drop_all c.files.declarations-index c.args.files.now c.files-test.false in
    sym (append-nil (map placed_of c.files.heads.items)) ∙ rw d at c.files.invariant.placed
