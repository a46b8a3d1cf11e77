use Rattle.std.proofs.Common.{◌≡◌, ◌+◌, ◌≤◌, true, nat_le, refl, subst}
use Rattle.std.proofs.lemmas.Bool.{le-leb}
use Rattle.planus_schema.specs.Slots.{width}
use Rattle.planus_schema.proofs.slots.slot_of.Goals as goal

pub returns-in-Some : goal.returns-in-Some
returns-in-Some c =
    let id = c.in-Some.id in
    let fits : nat_le (width c.args.kind) (id + 1) ≡ true =
    le-leb (width c.args.kind) (id + 1) (subst (λ n. n ≤ id + 1) c.width-slots.ensures c.if-slots-id.true) in
    rw (c.in-Some.is, c.if-not-ids.false, fits) refl
