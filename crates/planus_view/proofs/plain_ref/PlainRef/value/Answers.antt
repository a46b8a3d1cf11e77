use Rattle.planus_read.specs.Slices.{slice_bytes}
use Rattle.planus_view.specs.PlainRefs.{plain_slice}
use Rattle.planus_view.proofs.plain_ref.PlainRef.value.Goals as goal

pub returns-clause-read_back : goal.returns-clause-read_back
returns-clause-read_back g c = λ x fits stands.
    (g.T.Plain.shape).again (slice_bytes (plain_slice c.args.self.now)) 0 x c.from_buffer.result
    fits stands c.from_buffer.ensures
