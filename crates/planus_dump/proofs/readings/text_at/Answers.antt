use Rattle.std.proofs.Common.{Ok, Err}
use Rattle.planus_read.specs.Places.{place_bytes, place_offset}
use Rattle.planus_dump.proofs.Answering.{text_answer}
use Rattle.planus_dump.proofs.readings.text_at.Goals as goal

pub returns-in-Ok : goal.returns-in-Ok
returns-in-Ok c = text_answer (place_bytes c.args.place) (place_offset c.args.place) (Ok c.in-Ok.text) c.in-Ok.ensures

pub returns-in-Err : goal.returns-in-Err
returns-in-Err c = text_answer (place_bytes c.args.place) (place_offset c.args.place) (Err c.in-Err.kind) c.in-Err.ensures
