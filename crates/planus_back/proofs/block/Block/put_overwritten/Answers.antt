use Rattle.std.proofs.Common.{◌≡◌, ◌+◌, ℕ, List, arith, length, drop, length-take, length-drop, ap, ◌∙◌, subst}
use Rattle.core.specs.Mem.Slots.{slots_items}
use Rattle.planus_back.specs.inner.Blocks.{Puts}
use Rattle.planus_back.specs.inner.Cells.{slots_with_run}
use Rattle.planus_back.proofs.Blocks.{put_lent, put_ready}
use Rattle.planus_back.proofs.block.Block.put_overwritten.Goals as goal

pub returns-clause-puts : goal.returns-clause-puts
returns-clause-puts g c =
    let b = c.args.self.now in let b' = c.make_ready.new.self in let at = c.args.at in let n = c.args.n in let ws = c.overwrite.new.bytes in
    let ready = c.make_ready.ensures in let xs = slots_items b'.places in
    let size : length c.lend_mut.result.now ≡ n = omega (arith, ap length c.lend_mut.ensures.value, length-take n (drop at xs), length-drop at xs, b'.places.ok.0, ready.capacity, c.requires.holds.within) in
    let count : length ws ≡ n = c.overwrite.auto.bytes ∙ size in
    let is : ws ≡ g.W.Overwrite.encoding c.args.writer.now c.args.place n = c.overwrite.ensures ∙ ap (g.W.Overwrite.encoding c.args.writer.now c.args.place) size in
    let b'' = record b' { places = slots_with_run b'.places at n ws } in
    subst (λ (part : List ℕ). Puts b at part b'') is
    (put_ready b b' b'' at (at + n) ws ready (put_lent b' at n ws ready.holds (omega (arith, ready.capacity, c.requires.holds.within)) count) (omega (arith, count)))
