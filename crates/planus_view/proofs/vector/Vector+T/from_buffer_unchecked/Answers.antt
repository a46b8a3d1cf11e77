use Rattle.planus_read.specs.Slices.{slice_bytes}
use Rattle.planus_read.specs.Reading.{items_at, count_at}
use Rattle.planus_read.proofs.Reading.{vector_there}
use Rattle.planus_view.proofs.vector.Vector+T.from_buffer_unchecked.Goals as goal

pub returns : goal.returns
returns g c =
    let S = slice_bytes c.args.buffer in let f = c.args.offset in
    let head = c.array_unchecked-count.ensures in (
      record { position = items_at S f; count = count_at S f },
      vector_there S f g.T.Stands.Plain.SIZE c.requires,
      λ i. record { bytes = head.bytes i; start = head.start i; count = head.count i },
    )
