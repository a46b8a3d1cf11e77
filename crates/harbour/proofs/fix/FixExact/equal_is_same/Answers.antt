use Rattle.planus.specs.lemmas.Same as same
use Rattle.harbour.proofs.fix.FixExact.equal_is_same.Goals as goal

pub returns : goal.returns
returns c = λ e. same.made
    ((same.both (same.nat c.args.this.when c.args.other.when) (same.both c.equal_is_same.ensures
    (same.last c.equal_is_same-2.ensures))) e)
    (λ v. record { when = v.0; at = v.1.0; kind = v.1.1.0 })
