use Rattle.std.proofs.Common.{◌≡◌, rules, take, subst, sym, Err, IfErr}
use Rattle.planus_script.specs.Runner.{StopsReading}
use Rattle.planus_script.specs.declared.run.RunError.TheVariants.{OutOfMemory}
use Rattle.planus_script.proofs.Taken.{taken_full, taken_all, taken_refused}
use Rattle.planus_script.proofs.run.read_script.Goals as goal

pub returns-then-count-eq0-clause-bytes : goal.returns-then-count-eq0-clause-bytes
returns-then-count-eq0-clause-bytes g c =
    taken_all (g.R.Read.remaining c.args.reader.now) (g.R.Read.remaining c.loop-bytes.reader) (g.R.Read.remaining c.read_some.new.reader) c.loop-bytes.input.items (take c.in_ok-count.count c.read_some.new.bytes)
    c.loop-bytes.invariant.taken c.in_ok-count.ensures.bytes (search rules) (search rules) c.loop-bytes.invariant.fits

pub returns-in_err-extend_from_slice-clause-error : goal.returns-in_err-extend_from_slice-clause-error
returns-in_err-extend_from_slice-clause-error g c =
    let refused : c.from_residual-in_err-extend_from_slice.result ≡ Err OutOfMemory = search rules in
    let stops = taken_refused (g.R.Read.remaining c.args.reader.now) (g.R.Read.remaining c.loop-bytes.reader) (g.R.Read.remaining c.read_some.new.reader) c.loop-bytes.input.items (take c.in_ok-count.count c.read_some.new.bytes)
    c.loop-bytes.invariant.taken c.in_ok-count.ensures.bytes (search rules) (search rules) in
    subst (λ result. IfErr result (λ error. StopsReading error (g.R.Read.remaining c.args.reader.now) (g.R.Read.remaining c.read_some.new.reader))) (sym refused) stops

pub returns-clause-bytes : goal.returns-clause-bytes
returns-clause-bytes g c =
    taken_full (g.R.Read.remaining c.args.reader.now) (g.R.Read.remaining c.loop-bytes.reader) c.loop-bytes.input.items c.loop-bytes.invariant.taken (search rules)
