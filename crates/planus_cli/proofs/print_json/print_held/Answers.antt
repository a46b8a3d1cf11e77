use Rattle.std.proofs.Common.{true, false}
use Rattle.planus_cli.specs.PrintingJson.{manner_of}
use Rattle.planus_cli.proofs.PrintedJson.{held}
use Rattle.planus_cli.proofs.print_json.print_held.Goals as goal

pub returns-then-prefixed : goal.returns-then-prefixed
returns-then-prefixed g c =
    held (manner_of c.args.print.now) c.args.bytes.now c.args.prefixed true c.print_sized.result (g.W.Write.contents c.args.writer.now) (g.W.Write.contents c.print_sized.new.writer)
    (g.X.Write.contents c.args.errors.now) (g.X.Write.contents c.print_sized.new.errors) c.if-prefixed.true c.print_sized.ensures

pub returns-else-prefixed : goal.returns-else-prefixed
returns-else-prefixed g c =
    held (manner_of c.args.print.now) c.args.bytes.now c.args.prefixed false c.print_alone.result (g.W.Write.contents c.args.writer.now) (g.W.Write.contents c.print_alone.new.writer)
    (g.X.Write.contents c.args.errors.now) (g.X.Write.contents c.print_alone.new.errors) c.if-prefixed.false c.print_alone.ensures
