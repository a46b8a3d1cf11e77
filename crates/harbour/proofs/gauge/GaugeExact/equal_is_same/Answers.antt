use Rattle.planus.specs.lemmas.Same as same
use Rattle.harbour.proofs.gauge.GaugeExact.equal_is_same.Goals as goal

pub returns : goal.returns
returns c = λ e. same.made
    ((same.both (same.int c.args.this.depth c.args.other.depth)
    (same.last (same.bool c.args.this.rises c.args.other.rises))) e)
    (λ v. record { depth = v.0; rises = v.1.0 })
