use Rattle.std.proofs.Common.{◌≤◌, ◌<◌, length, ◌∙◌, arith}
use Rattle.planus_resolve.proofs.FaultLemmas.{adds_one, adds_full}
use Rattle.planus_resolve.proofs.fault.note.Goals as goal

pub returns-then-len-ge20-clause-adds : goal.returns-then-len-ge20-clause-adds
returns-then-len-ge20-clause-adds c =
    let full : 20 ≤ length c.args.faults.now.items = omega (arith, c.args.faults.now.ok.0) in
    rw c.in-Wrong.is (adds_full c.args.faults.now.items _ c.requires full)

pub returns-in-Ok-clause-adds : goal.returns-in-Ok-clause-adds
returns-in-Ok-clause-adds c =
    let few : length c.args.faults.now.items < 20 = omega (arith, c.args.faults.now.ok.0) in
    rw c.in-Wrong.is (c.in-Ok.ensures.items ∙ adds_one c.args.faults.now.items _ few)
