use Rattle.planus_read.specs.Places.{place_bytes, place_offset}
use Rattle.planus_read.proofs.Reading.{text_holds}
use Rattle.planus_verify.proofs.readings.text_is_there.Goals as goal

pub returns : goal.returns
returns c =
    let there = c.in_ok-_text.ensures in
    (text_holds (place_bytes c.args.at) (place_offset c.args.at) there.0 there.1).0
