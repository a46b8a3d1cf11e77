use Rattle.std.specs.Prelude.{ℕ, ◌-◌, List, ◌++◌, length, take}
use Rattle.planus_write.specs.Items.{Item}
use Rattle.planus_write.specs.declared.object_writer.ObjectWriter.{ObjectWriter}
use base.Fml.{GName}

-- The body of a table while it is written: the bytes so far, how many remain, and the next one's
-- place.
pub record ObjectBody : Type 0 where
  pub written : List ℕ
  pub remaining : ℕ
  pub place : ℕ
  pub reference : GName

-- the body at which a writer is
abbrev pub body_of : ObjectWriter → ObjectBody
body_of writer = record {
  written = take writer.at writer.bytes.now;
  remaining = length writer.bytes.now - writer.at;
  place = writer.place - writer.at;
  reference = writer.bytes.ghost_name;
}

-- n bytes more are written, these by their place
abbrev pub wrote : ℕ → Item → ObjectBody → ObjectBody
wrote size item body = record {
  written = body.written ++ item body.place;
  remaining = body.remaining - size;
  place = body.place - size;
  reference = body.reference;
}
