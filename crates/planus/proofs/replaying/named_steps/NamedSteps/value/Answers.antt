use Rattle.std.proofs.Common.{ap, sym, ◌∙◌, map, Some}
use Rattle.std.specs.Option.{option_map}
use Rattle.planus.specs.Kinds.{a_value, kind_named, naming_fault}
use Rattle.planus.specs.inner.Names.{name_of, offset_named}
use Rattle.planus.proofs.Lists.{named_value}
use Rattle.planus.proofs.replaying.named_steps.NamedSteps.value.Goals as goal

pub returns-in-Some-Some-Value : goal.returns-in-Some-Some-Value
returns-in-Some-Some-Value c =
    let there = sym c.written.ensures ∙ ap (option_map name_of) (c.in-Some-Some-Value.is ∙ ap Some (c.in-Some-Some-Value.field-0-is ∙ ap Some c.in-Some-Some-Value.field-0-0-is)) in (
      named_value c.args.self.now.first (map name_of c.args.self.now.offsets.now) c.args.step (offset_named c.in-Some-Some-Value.offset) there,
      ap (λ written. naming_fault a_value (option_map (option_map kind_named) written)) there,
    )
