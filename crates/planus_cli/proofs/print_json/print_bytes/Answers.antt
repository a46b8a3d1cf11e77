use Rattle.planus_cli.specs.Arguments.{words_of}
use Rattle.planus_cli.proofs.PrintedJson.{printed}
use Rattle.planus_cli.proofs.print_json.print_bytes.Goals as goal

pub returns : goal.returns
returns g c =
    printed c.args.schema.now (words_of c.args.words.now) c.args.root c.args.name.now c.args.bytes.now c.in_ok-shown.shown c.limit.result c.print_held.result
    (g.W.Write.contents c.args.writer.now) (g.W.Write.contents c.print_held.new.writer)
    (g.X.Write.contents c.args.errors.now) (g.X.Write.contents c.print_held.new.errors) c.in_ok-shown.ensures.shows c.limit.ensures c.print_held.ensures
