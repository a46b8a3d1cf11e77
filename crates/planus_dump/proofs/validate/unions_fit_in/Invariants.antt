use Rattle.std.proofs.Common.{◌≡◌, drop}
use Rattle.std.specs.List.{list_all}
use Rattle.planus_dump.specs.Schemas.{union_fits}
use Rattle.planus_dump.proofs.validate.unions_fit_in.Given as goal

abbrev pub invariant-loop-variants : goal.invariant-loop-variants
invariant-loop-variants l = list_all (union_fits l.tables l.structs) (drop l.variants-index l.all) ≡ list_all (union_fits l.tables l.structs) l.all
