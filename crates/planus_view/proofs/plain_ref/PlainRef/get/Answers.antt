use Rattle.planus_read.specs.Slices.{slice_bytes}
use Rattle.planus_view.specs.PlainRefs.{plain_slice}
use Rattle.planus_view.proofs.PlainRefs.{reads_back}
use Rattle.planus_view.proofs.plain_ref.PlainRef.get.Goals as goal

pub returns-clause-read_back : goal.returns-clause-read_back
returns-clause-read_back g c =
    reads_back g.T.Plain.shape (slice_bytes (plain_slice c.args.self.now)) 0 c.read.result
    c.read.ensures.answer
