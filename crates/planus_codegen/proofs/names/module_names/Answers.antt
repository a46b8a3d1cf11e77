use Rattle.std.proofs.Common.{rules, ◌≡◌, ◌∷◌}
use Rattle.planus_schema.specs.Distinct.{items_of}
use Rattle.planus_schema.specs.Spelling.{names_in}
use Rattle.planus_codegen.specs.Known.{module_word, modules_of}
use Rattle.planus_codegen.proofs.NameLemmas.{next_of}
use Rattle.planus_codegen.proofs.names.module_names.Goals as goal

pub types-preserved : goal.types-preserved
types-preserved c =
    let is : c.types.rest.now ≡ c.in-Some.first.now ∷ c.in-Some.after.now = search rules in
    next_of (module_word (items_of c.args.types.now) c.args.declared.now) (names_in c.types.names) (names_in c.add.new.names) c.types.rest.now c.in-Some.after.now c.in-Some.first.now c.in_ok-word.word.items c.deref.result.now
    (modules_of (items_of c.args.types.now) c.args.declared.now) is c.deref.ensures.value c.in_ok-word.ensures c.in_ok-add.ensures c.types.invariant
