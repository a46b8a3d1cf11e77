use Rattle.std.proofs.Common.{◌≡◌, ◌+◌, ◌++◌, map, drop, ap, subst, sym, ◌∙◌, arith}
use Rattle.std.proofs.lemmas.List.{drop_all}
use Rattle.std.specs.Prelude.{None}
use Rattle.std.specs.Global.{Vec}
use Rattle.planus_syntax.specs.Values.{names_of, declarations_of}
use Rattle.planus_syntax.specs.declared.value.Declaration.{Declaration}
use Rattle.planus_resolve.specs.Schemas.{StatementsV, said_of, after_file, after_files, no_statements, IsFour}
use Rattle.planus_resolve.specs.Names.{head_of, begun_in}
use Rattle.planus_resolve.specs.WrongServices.{known_attributes}
use Rattle.planus_resolve.specs.Faults.{Adds, first_twenty, statement_faults, file_faults}
use Rattle.planus_resolve.proofs.StructLemmas.{drop_next}
use Rattle.planus_resolve.proofs.FaultLemmas.{adds_none, adds_next}
use Rattle.planus_resolve.proofs.statements.statements.Goals as goal

pub files-preserved : goal.files-preserved
files-preserved c =
    let i = c.files.invariant in
    let none = c.nothing_stated-statements-in-files.ensures in
    let r = drop_next c.args.files.now c.files.declarations-index c.declarations-item.result c.files-test.true c.declarations-item.is in
    let hs = map head_of c.args.heads.now in
    let old = c.files.faults.items in
    let new = c.state_file.new.faults.items in
    let file = c.files.file in
    let b = c.files.begun in
    let d = c.declarations-item.result in
    let known : c.in-Ok-new.value ≡ known_attributes c.args.files.now = c.in-Ok-new.ensures ∙ ap names_of c.deref.ensures.value ∙ c.in-Ok.ensures in
    let a = subst (λ cs. Adds (statement_faults hs cs file b None d.items) old new) known
    (subst (λ ds. Adds (statement_faults hs c.in-Ok-new.value file b None ds) old new) c.deref-in-files.ensures.value c.in-Ok-state_file.ensures.stated.noted.adds) in
    let more : c.state_file.new.begun ≡ begun_in b (declarations_of d.items) =
    c.in-Ok-state_file.ensures.begun ∙ ap (λ ds. begun_in b (declarations_of ds)) c.deref-in-files.ensures.value in
    record {
      index = ap (λ n. n + 1) i.index;
      said = λ e. ap (λ m. after_files hs m (said_of c.state_file.new.statements) (map (λ (f : Vec Declaration). declarations_of f.items) (drop (c.files.declarations-index + 1) c.args.files.now))) more
          ∙ ap (λ s. after_files hs (begun_in b (declarations_of d.items)) s (map (λ (f : Vec Declaration). declarations_of f.items) (drop (c.files.declarations-index + 1) c.args.files.now)))
          (c.in-Ok-state_file.ensures.stated.said_now e ∙ ap (λ s. after_file hs b None s (declarations_of c.deref-in-files.result.now)) none
          ∙ ap (λ ds. after_file hs b None no_statements (declarations_of ds)) c.deref-in-files.ensures.value)
          ∙ ap (λ fs. after_files hs b (said_of c.files.statements) (map (λ (f : Vec Declaration). declarations_of f.items) fs)) (sym r) ∙ i.said (c.in-Ok-state_file.ensures.stated.noted.kept e);
      four = λ e. c.in-Ok-state_file.ensures.stated.four e (subst (λ (s : StatementsV). IsFour s.identifier) (sym none) tt);
      kept = λ e. i.kept (c.in-Ok-state_file.ensures.stated.noted.kept e);
      most = c.in-Ok-state_file.ensures.stated.noted.most;
      adds = ap (λ m. first_twenty (new ++ file_faults hs (known_attributes c.args.files.now) (file + 1) m (drop (c.files.declarations-index + 1) c.args.files.now))) more
          ∙ adds_next old (statement_faults hs (known_attributes c.args.files.now) file b None d.items) new _ _ a
          (ap (λ fs. first_twenty (old ++ file_faults hs (known_attributes c.args.files.now) file b fs)) (sym r) ∙ c.files.invariant.adds);
    }

pub overflow_add-file : goal.overflow_add-file
overflow_add-file c = omega arith

pub returns-clause-adds : goal.returns-clause-adds
returns-clause-adds c =
    let i = c.files.invariant in
    let d = drop_all c.files.declarations-index c.args.files.now c.files-test.false in
    adds_none c.files.faults.items i.most
    ∙ ap (λ fs. first_twenty (c.files.faults.items ++ file_faults (map head_of c.args.heads.now) (known_attributes c.args.files.now) c.files.file c.files.begun fs)) (sym d) ∙ i.adds

pub returns-clause-said : goal.returns-clause-said
returns-clause-said c =
    let d = drop_all c.files.declarations-index c.args.files.now c.files-test.false in
    λ e. rw d at c.files.invariant.said e

pub returns-clause-four : goal.returns-clause-four
returns-clause-four c = c.files.invariant.four

pub returns-clause-kept : goal.returns-clause-kept
returns-clause-kept c = c.files.invariant.kept
