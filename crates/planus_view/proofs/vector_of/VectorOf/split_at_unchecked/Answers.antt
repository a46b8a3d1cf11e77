use Rattle.planus_view.proofs.vector_of.VectorOf.split_at_unchecked.Goals as goal

pub returns : goal.returns
returns g c =
    record { front = c.sub_view.ensures; back = rw (← c.len.ensures) c.sub_view-2.ensures }
