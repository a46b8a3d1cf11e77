use Rattle.std.proofs.Common.{length, arith}
use Rattle.planus_cli.proofs.Seen.{seen_all, bounded}
use Rattle.planus_cli.proofs.laws.shown_is_seen.Goals as goal

pub returns : goal.returns
returns c = λ bytes h. seen_all (length bytes) bytes (omega arith) (bounded bytes h)
