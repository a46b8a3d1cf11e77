use Rattle.planus_demo.proofs.Dumping.{dumps_root}
use Rattle.planus_demo.proofs.program.dump_root.Goals as goal

pub returns-clause-printed : goal.returns-clause-printed
returns-clause-printed g c =
    dumps_root c.args.root c.in_ok-schema.schema (g.R.Read.remaining c.args.reader.now) _ _ _ c.in_ok-schema.ensures c.run_dump.ensures.printed
