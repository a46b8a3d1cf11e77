use Rattle.planus.specs.lemmas.Same as same
use Rattle.harbour.proofs.pos.PosExact.equal_is_same.Goals as goal

pub returns : goal.returns
returns c = λ e. same.made
    ((same.both (same.int c.args.this.lat c.args.other.lat)
    (same.both (same.int c.args.this.lon c.args.other.lon)
    (same.last (same.int c.args.this.alt c.args.other.alt)))) e)
    (λ v. record { lat = v.0; lon = v.1.0; alt = v.1.1.0 })
