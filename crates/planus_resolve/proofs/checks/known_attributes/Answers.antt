use Rattle.std.proofs.Common.{◌++◌, ap, sym, ◌∙◌, append_assoc}
use Rattle.std.proofs.lemmas.List.{append-nil, drop_all}
use Rattle.planus_syntax.specs.Values.{names_of}
use Rattle.planus_resolve.specs.WrongServices.{customs_of}
use Rattle.planus_resolve.proofs.StructLemmas.{drop_next}
use Rattle.planus_resolve.proofs.checks.known_attributes.Goals as goal

pub files-preserved : goal.files-preserved
files-preserved c =
    let known = names_of c.files.known.items in
    let r = drop_next c.args.files.now c.files.declarations-index c.declarations-item.result c.files-test.true c.declarations-item.is in
    rw (c.in-Ok-add_customs.ensures, c.deref.ensures.value) (append_assoc known _ _ ∙ ap (λ fs. known ++ customs_of fs) (sym r) ∙ c.files.invariant)

pub files-init : goal.files-init
files-init c = ap (λ names. names ++ customs_of c.args.files.now) c.in-Ok.ensures

pub returns : goal.returns
returns c =
    let d = drop_all c.files.declarations-index c.args.files.now c.files-test.false in
    sym (append-nil (names_of c.files.known.items)) ∙ rw d at c.files.invariant
