use Rattle.std.proofs.Common.{arith, refl}
use Rattle.planus_json.proofs.Printing.{loop_failed, loop_on, loop_done, goes_begin}
use Rattle.planus_json.proofs.TableTrees.{bytes-split, bytes-none}
use Rattle.planus_json.proofs.leaves.print_all_bytes.Goals as goal

pub loop-byte-init : goal.loop-byte-init
loop-byte-init c = goes_begin c.args.out.now _ _ refl

pub loop-byte-preserved : goal.loop-byte-preserved
loop-byte-preserved c =
    loop_on _ _ _ _ _ _ _ c.loop-byte.invariant (c.in_ok-print_byte.ensures _ refl) (bytes-split c.args.line.now c.args.content.now c.loop-byte.byte-index (omega (arith, c.loop-byte-test.true)))

pub returns-in_err-print_byte : goal.returns-in_err-print_byte
returns-in_err-print_byte c = λ ps same.
    loop_failed _ _ _ _ _ _ _ _ _ _ _ c.from_residual.ensures.1 c.loop-byte.invariant (c.in_err-print_byte.ensures _ refl) (bytes-split c.args.line.now c.args.content.now c.loop-byte.byte-index (omega (arith, c.loop-byte-test.true))) same

pub returns : goal.returns
returns c = λ ps same. loop_done c.loop-byte.invariant (bytes-none c.args.line.now c.args.content.now c.loop-byte.byte-index (omega (arith, c.loop-byte-test.false))) same
