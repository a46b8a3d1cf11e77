use Rattle.planus_pack.proofs.Inserted.{in_place}
use Rattle.planus_pack.proofs.fields.insert_field.Goals as goal

pub returns : goal.returns
returns c =
    rw (c.in_ok-insert.ensures.items, c.place_in-place.ensures.first, c.alignment_of.ensures, c.deref.ensures.value)
    (in_place c.args.field c.args.fields.now.items)
