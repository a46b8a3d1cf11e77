use Rattle.planus_verify.proofs.Outcomes.{walks_limit}
use Rattle.planus_verify.proofs.laws.verified_passes.Goals as goal

pub returns : goal.returns
returns c schema depth t S V start left m found h holds =
    walks_limit schema depth m t S V start left found h holds
