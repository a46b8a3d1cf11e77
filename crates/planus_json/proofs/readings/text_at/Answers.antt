use Rattle.planus_read.specs.Places.{place_bytes, place_offset}
use Rattle.planus_json.proofs.Texts.{text_answer}
use Rattle.planus_json.proofs.readings.text_at.Goals as goal

pub returns : goal.returns
returns c = let S = place_bytes c.args.place in let f = place_offset c.args.place in text_answer S f ((c.readings_are_said.ensures.values S f).text) c.read.result c.read.ensures
