use Rattle.std.proofs.Common.{sym, ap, ◌∙◌, arith, true}
use Rattle.std.specs.Prelude.{None}
use Rattle.planus_syntax.specs.Values.{enumeration_of}
use Rattle.planus_resolve.specs.Defaults.{value_named}
use Rattle.planus_resolve.specs.Enums.{variants_or_none}
use Rattle.planus_resolve.proofs.DefaultLemmas.{no_flag}
use Rattle.planus_resolve.proofs.defaults.flags_named.Goals as goal

pub returns-in-None : goal.returns-in-None
returns-in-None c =
    sym (no_flag (enumeration_of c.args.declared.now) c.args.words.now c.words.word-index c.word-item.result c.words.total
    (omega arith) c.word-item.is c.words.invariant
    (ap (λ w. value_named w true None (variants_or_none (enumeration_of c.args.declared.now).variants)) (sym c.deref.ensures.value)
    ∙ sym c.named_value.ensures ∙ c.in-None.is))
