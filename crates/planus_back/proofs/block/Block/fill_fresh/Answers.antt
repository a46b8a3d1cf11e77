use Rattle.std.proofs.Common.{◌≡◌, ◌+◌, ◌-◌, arith, sym, subst}
use Rattle.planus_back.specs.inner.Blocks.{HoldsFrom}
use Rattle.planus_back.proofs.Blocks.{holds_from_lesser, made_ready}
use Rattle.planus_back.proofs.block.Block.fill_fresh.Goals as goal

pub put_many_zeros-requires : goal.put_many_zeros-requires
put_many_zeros-requires c =
    let b = c.args.self.now in let from = c.saturating_sub-from.result in let to = c.min-to.result in
    let seam : from + (to - from) ≡ to = omega (arith, c.saturating_sub-from.ensures, c.min-to.ensures, c.requires.fresh, c.requires.inside) in
    subst (HoldsFrom b) (sym seam) (holds_from_lesser b c.args.start to c.requires.holds c.min-to.ensures)

pub returns : goal.returns
returns c =
    let from = c.saturating_sub-from.result in let to = c.min-to.result in
    made_ready c.args.self.now c.put_many_zeros.new.self from (to - from) c.args.at c.args.start c.put_many_zeros.ensures
    (omega (arith, c.saturating_sub-from.ensures)) c.requires.inside (omega (arith, c.saturating_sub-from.ensures, c.min-to.ensures, c.requires.fresh, c.requires.inside)) c.requires.holds.within
