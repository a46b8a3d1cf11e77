use Rattle.std.proofs.Common.{◌≡◌, drop}
use Rattle.planus_conform.specs.Matching.{renamed as renamed_lem}
use Rattle.planus_conform.proofs.matching.renamed.Given as goal

abbrev pub invariant-renames : goal.invariant-renames
invariant-renames l = renamed_lem (drop l.rename-index l.renames) l.name ≡ renamed_lem l.renames l.name
