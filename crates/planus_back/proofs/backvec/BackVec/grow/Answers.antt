use Rattle.std.proofs.Common.{ℕ, ◌+◌, ◌-◌, ◌++◌, length, Result, Ok, Err, OnErr, refl, ap, subst, ◌∙◌, arith}
use Rattle.std.proofs.lemmas.List.{append-nil, drop_all}
use Rattle.core.specs.Mem.Slots.{slots_counts, slots_items}
use Rattle.planus_back.specs.inner.Blocks.{HoldsFrom, bytes_from}
use Rattle.planus_back.proofs.backvec.BackVec.grow.Goals as goal

on_refusal : {T E P : Type 0} (r : Result T E) → P → OnErr r P
on_refusal (Ok x) p = tt
on_refusal (Err e) p = p

pub returns-in_err-larger-clause-bytes : goal.returns-in_err-larger-clause-bytes
returns-in_err-larger-clause-bytes c = refl

pub returns-in_err-larger-clause-err : goal.returns-in_err-larger-clause-err
returns-in_err-larger-clause-err c = on_refusal _ refl

pub put_slice-requires : goal.put_slice-requires
put_slice-requires c =
    subst (HoldsFrom c.in_ok-larger.larger) (omega (arith, ap length c.as_slice.ensures))
    c.in_ok-larger.ensures.0

pub returns-clause-bytes : goal.returns-clause-bytes
returns-clause-bytes c =
    let room : ℕ = c.max-capacity.result - c.len-len.result in
    let places = c.in_ok-larger.larger.places in
    let none = drop_all (room + length c.as_slice.result.now) (slots_items places)
    (omega (arith, (slots_counts places).0, c.in_ok-larger.ensures.1, ap length c.as_slice.ensures)) in
    ap (λ b. bytes_from b room) c.replace-old.ensures.after ∙ c.put_slice.ensures.bytes
    ∙ ap (λ l. c.as_slice.result.now ++ l) none ∙ append-nil c.as_slice.result.now
    ∙ c.as_slice.ensures
