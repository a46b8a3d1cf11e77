use Rattle.std.proofs.Common.{length, take, drop, arith, sym, ap, ◌∙◌}
use Rattle.std.proofs.Math.ListN.{drop_of_length-le}
use Rattle.std.proofs.Math.Seq.{take-nil}
use Rattle.std.proofs.lemmas.List.{take_rest, take_all}
use Rattle.planus_verify.proofs.walk.some_fields.Goals as goal

pub returns-then-first-all : goal.returns-then-first-all
returns-then-first-all c =
    let past = c.if-first-all.true in
    sym (ap (take c.args.count) (drop_of_length-le c.args.all.now (omega (arith, past)))
    ∙ take-nil c.args.count)

pub returns-then-count-rest : goal.returns-then-count-rest
returns-then-count-rest c =
    let all = c.args.all.now in
    let short = c.if-count-rest.true in
    let same = take_rest all c.args.first in
    let less = ap length same in
    same ∙ sym (take_all c.args.count (drop c.args.first all) (omega (arith, short, less)))

pub returns : goal.returns
returns c = ap (take c.args.count) (take_rest c.args.all.now c.args.first)
