use Rattle.std.proofs.Common.{refl, ap, ◌∙◌}
use Rattle.planus_syntax.specs.Values.{names_of}
use Rattle.planus_resolve.proofs.unions.member.Goals as goal

pub returns-clause-read : goal.returns-clause-read
returns-clause-read c = (
  record {
    name = rw (c.deref.ensures.value, c.deref-2.ensures.value) at c.in-Ok-dotted_name.ensures;
    docs = c.in-Ok-copied.ensures ∙ ap names_of c.deref-3.ensures.value;
    base = c.in-Ok.ensures.named;
    fits = c.in-Ok.ensures.fits;
  },
  refl,
)
