-- A back vector's bytes are the end of a block.
use Rattle.planus_back.specs.BackBytes.{BackBytes}
use Rattle.planus_back.specs.inner.Blocks.{HoldsFrom, bytes_from}
use Rattle.planus_back.specs.declared.backvec.BackVec.TheInside.{Inside}

abbrev pub back_bytes : Inside → BackBytes
back_bytes a = record { bytes = bytes_from a.block a.start; room = a.start }

abbrev pub BeginsAtStart : Inside → Type 0
BeginsAtStart a = HoldsFrom a.block a.start
