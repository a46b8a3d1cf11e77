use Rattle.planus_read.specs.Places.{place_bytes, place_offset}
use Rattle.planus_read.specs.Reading.{text_clauses}
use Rattle.planus_verify.specs.Walks.{NoTable}
use Rattle.planus_verify.proofs.Loops.{one_test}
use Rattle.planus_verify.proofs.walk.verify_text.Goals as goal

pub returns : goal.returns
returns c =
    one_test NoTable c.args.place (text_clauses (place_bytes c.args.at) (place_offset c.args.at))
    c.args.left c.text_is_there.result c.tested.result c.text_is_there.ensures c.tested.ensures
