use Rattle.planus_dump.proofs.AsRead.{readings_are_said}
use Rattle.planus_dump.proofs.AsReadParts.{floats_are_said, structs_are_said, led_structs_are_said, buffers_are_said}
use Rattle.planus_dump.proofs.laws.readings_are_said.Goals as goal

pub returns-clause-values : goal.returns-clause-values
returns-clause-values c = readings_are_said

pub returns-clause-floats : goal.returns-clause-floats
returns-clause-floats c = floats_are_said

pub returns-clause-structs : goal.returns-clause-structs
returns-clause-structs c = structs_are_said

pub returns-clause-led : goal.returns-clause-led
returns-clause-led c = led_structs_are_said

pub returns-clause-buffers : goal.returns-clause-buffers
returns-clause-buffers c = buffers_are_said
