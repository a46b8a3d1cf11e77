use Rattle.std.proofs.Common.{◌+◌, ◌++◌, ap, sym, ◌∙◌, map, append_assoc, arith}
use Rattle.std.proofs.lemmas.List.{append-nil, drop_all}
use Rattle.planus_resolve.specs.Uses.{event_of, files_used}
use Rattle.planus_resolve.proofs.StructLemmas.{drop_next}
use Rattle.planus_resolve.proofs.uses.events.Goals as goal

pub overflow_add-file : goal.overflow_add-file
overflow_add-file c = omega arith

pub files-preserved : goal.files-preserved
files-preserved c =
    let i = c.files.invariant in
    let out = map event_of c.files.out.items in
    let file = c.files.file in
    let r = drop_next c.args.files.now c.files.declarations-index c.declarations-item.result c.files-test.true c.declarations-item.is in
    record {
      index = ap (λ n. n + 1) i.index;
      out = rw (c.in-Ok.ensures, c.deref.ensures.value) (append_assoc out _ _
          ∙ ap (λ fs. out ++ files_used file fs) (sym r) ∙ i.out);
    }

pub returns : goal.returns
returns c =
    let d = drop_all c.files.declarations-index c.args.files.now c.files-test.false in
    sym (append-nil (map event_of c.files.out.items)) ∙ rw d at c.files.invariant.out
