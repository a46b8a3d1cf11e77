use Rattle.std.proofs.Common.{ap, sym, ◌∙◌, map, Some}
use Rattle.std.specs.Option.{option_map}
use Rattle.planus.specs.Kinds.{a_union_vector, kind_named, naming_fault}
use Rattle.planus.specs.inner.Names.{name_of, vector_named}
use Rattle.planus.proofs.Lists.{named_value}
use Rattle.planus.proofs.replaying.named_steps.NamedSteps.unions.Goals as goal

pub returns-in-Some-Some-Unions : goal.returns-in-Some-Some-Unions
returns-in-Some-Some-Unions c =
    let there = sym c.written.ensures ∙ ap (option_map name_of) (c.in-Some-Some-Unions.is ∙ ap Some (c.in-Some-Some-Unions.field-0-is ∙ ap Some c.in-Some-Some-Unions.field-0-0-is)) in (
      named_value c.args.self.now.first (map name_of c.args.self.now.offsets.now) c.args.step (vector_named c.in-Some-Some-Unions.vector) there,
      ap (λ written. naming_fault a_union_vector (option_map (option_map kind_named) written)) there,
    )
