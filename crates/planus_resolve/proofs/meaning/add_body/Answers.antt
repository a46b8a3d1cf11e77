use Rattle.std.proofs.Common.{refl, ap, ◌∙◌}
use Rattle.planus_syntax.specs.Values.{names_of}
use Rattle.planus_resolve.specs.Names.{head_of}
use Rattle.planus_resolve.proofs.SchemaLemmas.{appended}
use Rattle.planus_resolve.proofs.meaning.add_body.Goals as goal

pub returns-clause-appended : goal.returns-clause-appended
returns-clause-appended c =
    appended (head_of c.args.head.now) c.args.body c.args.declared.now.items c.push.new.self.items _
    c.in_ok-push.ensures.items (c.in-Ok.ensures.items ∙ c.deref.ensures.value)
    (c.in-Ok-copied.ensures ∙ ap names_of c.deref-2.ensures.value) refl refl
