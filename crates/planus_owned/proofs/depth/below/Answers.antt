use Rattle.std.proofs.Common.{◌-◌, arith}
use Rattle.planus_owned.proofs.Shown.{record_at, error_at}
use Rattle.planus_owned.proofs.depth.below.Goals as goal

pub returns-clause-made : goal.returns-clause-made
returns-clause-made g c =
    record_at g.R.Owned.owned c.args.depth (c.args.depth - 1) (omega arith)

pub returns-clause-fails : goal.returns-clause-fails
returns-clause-fails g c =
    error_at g.R.Owned.owned c.args.depth (c.args.depth - 1) (omega arith)
