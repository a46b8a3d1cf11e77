use Rattle.std.proofs.Common.{◌+◌, ◌-◌, arith}
use Rattle.planus_back.proofs.Blocks.{fewer_zeros}
use Rattle.planus_back.proofs.block.Block.put_zeros.Goals as goal

pub returns-then-at-n-ge8 : goal.returns-then-at-n-ge8
returns-then-at-n-ge8 c =
    fewer_zeros c.args.self.now c.put_slice.new.self (c.args.at + c.args.n - 8) c.args.at 8 c.args.n c.put_slice.ensures
    (omega (arith, c.if-at-n-ge8.true)) c.if-n-le8.true (omega (arith, c.requires.within))
