use Rattle.std.proofs.Common.{map, ap, sym, subst, ◌∙◌}
use Rattle.std.specs.Global.{Vec}
use Rattle.planus_syntax.specs.Values.{declarations_of}
use Rattle.planus_syntax.specs.declared.value.Declaration.{Declaration}
use Rattle.planus_schema.specs.Distinct.{AreDistinct}
use Rattle.planus_resolve.specs.Schemas.{AreDeclared, after_files, no_statements}
use Rattle.planus_resolve.specs.Names.{HeadV}
use Rattle.planus_resolve.proofs.FaultLemmas.{all_found, exactly_told, error_told}
use Rattle.planus_resolve.proofs.meaning.meaning_of.Goals as goal

pub returns-clause-none : goal.returns-clause-none
returns-clause-none c =
    let found = all_found c.args.files.now c.args.heads.now c.new-faults.result.items _ _ _ c.check_uses.new.faults.items
    c.new-faults.ensures.items c.requires.heads
    c.requires.placed c.in-Ok.ensures.adds
    c.in-Ok-declarations.ensures.adds c.in-Ok-statements.ensures.adds c.in-Ok-check_uses.ensures.adds in
    sym found ∙ c.in-Ok-refuse.ensures.none

pub returns-in-Err-refuse-clause-exact : goal.returns-in-Err-refuse-clause-exact
returns-in-Err-refuse-clause-exact c =
    let found = all_found c.args.files.now c.args.heads.now c.new-faults.result.items _ _ _ c.check_uses.new.faults.items
    c.new-faults.ensures.items c.requires.heads
    c.requires.placed c.in-Ok.ensures.adds
    c.in-Ok-declarations.ensures.adds c.in-Ok-statements.ensures.adds c.in-Ok-check_uses.ensures.adds in
    exactly_told c.args.files.now c.check_uses.new.faults.items c.in-Err-refuse.error found c.in-Err-refuse.ensures.told

pub returns-in-Err-refuse-clause-faults : goal.returns-in-Err-refuse-clause-faults
returns-in-Err-refuse-clause-faults c = error_told c.check_uses.new.faults.items c.in-Err-refuse.error c.in-Err-refuse.ensures.told

pub returns-clause-means : goal.returns-clause-means
returns-clause-means c =
    let none = c.in-Ok-check_uses.ensures.kept c.in-Ok-refuse.ensures.none in
    let before = c.in-Ok-statements.ensures.kept none in
    record {
      declared = subst (λ hs. AreDeclared hs hs c.in-Ok-declarations.value.items) c.requires.heads (c.in-Ok-declarations.ensures.says before);
      names = subst (λ hs. AreDistinct (map (λ (x : HeadV). x.name) hs)) c.requires.heads (c.in-Ok.ensures.distinct (c.in-Ok-declarations.ensures.kept before));
      statements = c.in-Ok-statements.ensures.said none ∙ ap (λ hs. after_files hs 0 no_statements (map (λ (f : Vec Declaration). declarations_of f.items) c.args.files.now)) c.requires.heads;
      four = c.in-Ok-statements.ensures.four none;
    }
