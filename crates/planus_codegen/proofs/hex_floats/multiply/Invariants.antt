use Rattle.planus_codegen.proofs.hex_floats.multiply.Given as goal

abbrev pub decreases-carry : goal.decreases-carry
decreases-carry l = l.carry
