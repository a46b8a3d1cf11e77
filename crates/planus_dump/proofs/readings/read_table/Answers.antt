use Rattle.planus_read.specs.Places.{place_bytes, place_start, place_offset}
use Rattle.planus_dump.proofs.Answering.{table_answer}
use Rattle.planus_dump.proofs.readings.read_table.Goals as goal

pub returns : goal.returns
returns c = table_answer (place_bytes c.args.place) (place_start c.args.place) (place_offset c.args.place) c.read.result c.read.ensures
