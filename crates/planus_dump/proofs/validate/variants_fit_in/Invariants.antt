use Rattle.std.proofs.Common.{◌≡◌, drop}
use Rattle.planus_dump.specs.Schemas.{variants_fit}
use Rattle.planus_dump.proofs.validate.variants_fit_in.Given as goal

abbrev pub invariant-loop-index : goal.invariant-loop-index
invariant-loop-index l = variants_fit l.tables l.structs (drop l.index l.variants) ≡ variants_fit l.tables l.structs l.variants
