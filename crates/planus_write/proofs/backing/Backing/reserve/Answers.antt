use Rattle.std.proofs.Common.{◌≤◌, ap, refl, arith}
use Rattle.std.proofs.lemmas.Bool.{false≢true}
use Rattle.std.proofs.lemmas.Result.{err_from_is_err_and}
use Rattle.planus_write.specs.View.{backed_of}
use Rattle.planus_write.proofs.backing.Backing.reserve.Goals as goal

pub returns-in_err-reserve : goal.returns-in_err-reserve
returns-in_err-reserve c =
    let p = err_from_is_err_and c.from_residual.result c.from_residual.ensures.1 in
    let far : c.args.n ≤ c.self.inside.inner.room → ⊥ = λ within. false≢true (c.in_err-reserve.ensures.enough within) in
    rw (p.1, p.2, ← c.self.view_is)
    (refl, ap (λ inner. backed_of (record c.self.inside { inner = inner })) c.in_err-reserve.ensures.err, omega (arith, far))

pub returns : goal.returns
returns c =
    let old = backed_of c.self.inside in
    let room = c.reserve.new.self.room in
    rw (← c.self.view_is) (record {
      unchanged = ap (λ bytes. record old { bytes = bytes; room = room }) c.in_ok-reserve.ensures.bytes;
      more = grind arith;
      enough = c.in_ok-reserve.ensures.ok;
      as_was = λ within. ap (λ inner. inner.room) (c.in_ok-reserve.ensures.unchanged within);
    })
