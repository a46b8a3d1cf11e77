use Rattle.std.proofs.Common.{ℕ, ◌++◌, replicate, ap, ◌∙◌, arith}
use Rattle.std.proofs.lemmas.List.{length-replicate}
use Rattle.planus_back.specs.BackBytes.{BackBytes}
use Rattle.planus_back.specs.inner.Blocks.{bytes_from}
use Rattle.planus_back.proofs.backvec.BackVec.put_zeros.Goals as goal

pub invariant_of-self : goal.invariant_of-self
invariant_of-self c = c.put_zeros.ensures.holds

pub returns-clause-bytes : goal.returns-clause-bytes
returns-clause-bytes c =
    let room = ap (λ (b : BackBytes). b.room) c.self.view_is in
    let behind = ap (λ k. bytes_from c.self.inside.block k)
    (omega (arith, room, length-replicate {A = ℕ} c.args.n 0))
    ∙ ap (λ (b : BackBytes). b.bytes) c.self.view_is in
    c.put_zeros.ensures.bytes ∙ ap (λ l. replicate c.args.n 0 ++ l) behind
