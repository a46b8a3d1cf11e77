use Rattle.planus_verify.proofs.Outcomes.{walks_pass, walks_count}
use Rattle.planus_verify.proofs.laws.passed_is_verified.Goals as goal

pub returns : goal.returns
returns c schema depth t S V start left rest h =
    let holds = walks_pass schema depth t S V start left rest h in
    (holds, walks_count schema depth depth t S V start left rest h holds)
