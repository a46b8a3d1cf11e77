use Rattle.std.proofs.Common.{◌≡◌, ◌≢◌, ◌+◌, ◌∷◌, [], length, rules, subst, arith}
use Rattle.planus_cli.specs.PrintingJson.{manner_of, PrintsSized}
use Rattle.planus_cli.proofs.Led.{parts_left}
use Rattle.planus_cli.proofs.PrintedJson.{first_faulty, first_printed}
use Rattle.planus_cli.proofs.Sized.{ended, ended_early}
use Rattle.planus_cli.proofs.print_json.print_sized.Goals as goal

pub buffers-init : goal.buffers-init
buffers-init g c = record {
  place = omega arith;
  count = omega arith;
  prints = λ buffers status after said prints. (buffers, prints);
}

pub buffers-preserved : goal.buffers-preserved
buffers-preserved g c =
    let how = manner_of c.args.print.now in
    let parts = parts_left c.buffers.rest.now c.in-Some.buffer.now c.in-Some.after.now c.in-Some.ensures in
    let place = c.buffers.invariant.place in
    let count = c.buffers.invariant.count in
    record {
      place = omega (arith, parts, place);
      count = omega (arith, count);
      prints = λ buffers status after said prints.
          c.buffers.invariant.prints (c.in-Some.buffer.now ∷ buffers) status after said
          (first_printed how c.buffers.number c.buffers.at c.in-Some.buffer.now c.buffers.rest.now c.in-Some.after.now buffers c.in_ok-one.one
          c.buffers.worst status (g.W.Write.contents c.buffers.writer) (g.W.Write.contents c.print_one.new.writer) after
          (g.X.Write.contents c.buffers.errors) (g.X.Write.contents c.print_one.new.errors) said
          c.in-Some.ensures c.in_ok-one.ensures c.if-one.false
          (subst (λ worst. PrintsSized how (c.buffers.number + 1) (c.buffers.at + (4 + length c.in-Some.buffer.now)) buffers c.in-Some.after.now worst status
          (g.W.Write.contents c.print_one.new.writer) after (g.X.Write.contents c.print_one.new.errors) said)
          c.max-worst.ensures prints));
    }

pub returns-in_default : goal.returns-in_default
returns-in_default g c =
    let some : length c.buffers.rest.now ≢ 0 = search rules in
    c.buffers.invariant.prints [] 1 (g.W.Write.contents c.buffers.writer) (g.X.Write.contents c.say.new.errors)
    (ended_early c.args.print.now.name.now c.buffers.rest.now c.buffers.worst (g.W.Write.contents c.buffers.writer)
    (g.X.Write.contents c.buffers.errors) (g.X.Write.contents c.say.new.errors) some c.in_default.ensures c.in_ok-say.ensures.said)

pub returns-then-one : goal.returns-then-one
returns-then-one g c =
    c.buffers.invariant.prints (c.in-Some.buffer.now ∷ []) 1 (g.W.Write.contents c.print_one.new.writer) (g.X.Write.contents c.print_one.new.errors)
    (first_faulty (manner_of c.args.print.now) c.buffers.number c.buffers.at c.in-Some.buffer.now c.buffers.rest.now c.in-Some.after.now c.in_ok-one.one
    c.buffers.worst (g.W.Write.contents c.buffers.writer) (g.W.Write.contents c.print_one.new.writer)
    (g.X.Write.contents c.buffers.errors) (g.X.Write.contents c.print_one.new.errors)
    c.in-Some.ensures c.in_ok-one.ensures c.if-one.true)

pub returns : goal.returns
returns g c =
    let none : length c.buffers.rest.now ≡ 0 = search rules in
    c.buffers.invariant.prints [] c.buffers.worst (g.W.Write.contents c.buffers.writer) (g.X.Write.contents c.buffers.errors)
    (ended c.args.print.now.name.now c.buffers.rest.now c.buffers.worst (g.W.Write.contents c.buffers.writer)
    (g.X.Write.contents c.buffers.errors) none)
