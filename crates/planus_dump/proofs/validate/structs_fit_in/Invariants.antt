use Rattle.std.proofs.Common.{◌≡◌, drop}
use Rattle.std.specs.List.{list_all}
use Rattle.planus_dump.specs.Schemas.{struct_fits}
use Rattle.planus_dump.proofs.validate.structs_fit_in.Given as goal

abbrev pub invariant-loop-shape : goal.invariant-loop-shape
invariant-loop-shape l = list_all (struct_fits l.enums l.structs) (drop l.shape-index l.all) ≡ list_all (struct_fits l.enums l.structs) l.all
