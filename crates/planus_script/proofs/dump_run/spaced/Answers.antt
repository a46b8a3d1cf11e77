use Rattle.std.proofs.Common.{◌∙◌, sym}
use Rattle.planus_script.specs.DumpRuns.{spaced_bytes}
use Rattle.planus_script.proofs.SpacedBytes.{spaced_read}
use Rattle.planus_script.proofs.dump_run.spaced.Goals as goal

pub loop-rest-preserved : goal.loop-rest-preserved
loop-rest-preserved c =
    rw c.in_ok-push-in-Some.ensures.items
    (spaced_read c.loop-rest.rest.now c.loop-rest.bytes.items (spaced_bytes c.args.line.now) c.in-Some.byte c.in-len3-up.len_at_least c.if-space-ne32.false (sym c.byte_of.ensures ∙ c.in-Some.is) c.loop-rest.invariant)
