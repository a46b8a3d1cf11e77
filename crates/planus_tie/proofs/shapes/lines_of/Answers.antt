use Rattle.std.proofs.Common.{ap, ◌+◌}
use Rattle.planus_tie.proofs.Lined.{lines_added, lines_done}
use Rattle.planus_tie.proofs.shapes.lines_of.Goals as goal

pub declared-preserved : goal.declared-preserved
declared-preserved c = record {
  index = ap (λ n. n + 1) c.declared.invariant.index;
  rest = lines_added c.args.declared.now c.declared.one-index c.declared.index _
      c.one-item.result c.declared.lines.items c.push_lines.new.out.items c.declared-test.true
      c.declared.invariant.index c.one-item.is c.in_ok-push_lines.ensures
      c.declared.invariant.rest;
}

pub returns : goal.returns
returns c = lines_done c.args.declared.now c.declared.one-index c.declared.lines.items
    c.declared-test.false c.declared.invariant.rest
