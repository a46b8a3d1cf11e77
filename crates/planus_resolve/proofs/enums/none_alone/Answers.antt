use Rattle.std.proofs.Common.{ap}
use Rattle.planus_syntax.specs.Values.{names_of}
use Rattle.planus_resolve.proofs.EnumLemmas.{none_are}
use Rattle.planus_resolve.proofs.enums.none_alone.Goals as goal

pub returns : goal.returns
returns c = record {
  says = rw (c.in_ok-push.ensures.items, c.new-values.ensures.items)
      (none_are c.args.scalar c.args.flags _ c.in-Ok.ensures.items (ap names_of c.new.ensures.items) c.none_number-number.ensures c.requires);
}
