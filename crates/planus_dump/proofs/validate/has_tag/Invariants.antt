use Rattle.std.proofs.Common.{◌≡◌, drop}
use Rattle.std.specs.List.{list_any}
use Rattle.std.specs.Prelude.{◌==◌}
use Rattle.planus_dump.proofs.validate.has_tag.Given as goal

abbrev pub invariant-loop-other : goal.invariant-loop-other
invariant-loop-other l = list_any (λ other. other.tag == l.tag) (drop l.other-index l.variants) ≡ list_any (λ other. other.tag == l.tag) l.variants
