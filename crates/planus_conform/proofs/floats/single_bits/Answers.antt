use Rattle.planus_conform.proofs.FloatBits.{read_bits, no_text}
use lib.Ieee.{binary32}
use Rattle.planus_conform.proofs.floats.single_bits.Goals as goal

pub returns-in-Ok-parse : goal.returns-in-Ok-parse
returns-in-Ok-parse c =
    read_bits binary32 c.args.text.now c.in-Ok.text.now c.in-Ok-parse.x _ c.in-Ok.ensures.cases.0
    c.in-Ok.ensures.cases.1 c.in-Ok-parse.ensures.value.1 c.f32_to_bits_with_nan.ensures

pub returns-in-Err : goal.returns-in-Err
returns-in-Err c = no_text binary32 c.args.text.now c.in-Err.ensures.cases.0
