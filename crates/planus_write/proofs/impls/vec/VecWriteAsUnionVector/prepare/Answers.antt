use Rattle.std.specs.Prelude.{List}
use Rattle.std.proofs.Common.{subst}
use Rattle.planus_write.specs.Unions.{WritesUnionVector}
use Rattle.planus_write.proofs.impls.vec.VecWriteAsUnionVector.prepare.Goals as goal

pub returns : goal.returns
returns g c =
    subst (λ (xs : List _). WritesUnionVector g.U.WriteAsUnion.outcome xs c.args.builder.now c.write_union_vector.result c.write_union_vector.new.builder) c.as_slice.ensures.value c.write_union_vector.ensures
