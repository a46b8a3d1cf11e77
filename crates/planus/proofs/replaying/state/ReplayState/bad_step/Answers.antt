use Rattle.std.proofs.Common.{◌≡◌, ◌+◌, length, ap, arith}
use Rattle.planus.specs.declared.replaying.faults.ReplayError.TheVariants.{BadStep}
use Rattle.planus.proofs.replaying.state.ReplayState.bad_step.Goals as goal

pub returns : goal.returns
returns c =
    let steps : c.len.result ≡ length c.args.self.now.offsets.items = omega (arith, c.len.ensures, c.args.self.now.offsets.ok.0) in
    ap (λ n. BadStep (c.args.self.now.first + n) c.args.why) steps
