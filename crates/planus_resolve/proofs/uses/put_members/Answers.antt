use Rattle.std.proofs.Common.{◌++◌, ap, sym, ◌∙◌, map, append_assoc}
use Rattle.std.proofs.lemmas.List.{append-nil, drop_all}
use Rattle.planus_resolve.specs.Uses.{spot_of, event_of, members_used}
use Rattle.planus_resolve.proofs.StructLemmas.{drop_next}
use Rattle.planus_resolve.proofs.uses.put_members.Goals as goal

pub members-preserved : goal.members-preserved
members-preserved c =
    let out = map event_of c.members.out.items in
    let r = drop_next c.args.members.now c.members.member-index c.member-item.result c.members-test.true c.member-item.is in
    rw c.in-Ok.ensures (append_assoc out _ _
    ∙ ap (λ ds. out ++ members_used (spot_of c.args.spot) ds) (sym r) ∙ c.members.invariant)

pub returns : goal.returns
returns c =
    let d = drop_all c.members.member-index c.args.members.now c.members-test.false in
    sym (append-nil (map event_of c.members.out.items)) ∙ rw d at c.members.invariant
