use Rattle.std.proofs.Common.{subst}
use Rattle.std.specs.Prelude.{List}
use Rattle.planus_write.specs.Preparing.{Answers}
use Rattle.planus_write.specs.Unions.{WritesUnionVector}
use Rattle.planus_write.specs.declared.union_offset.UnionOffset.{UnionOffset}
use Rattle.planus.specs.inner.Names.{vector_named}
use Rattle.planus.specs.inner.Replaying.{WritesValue}
use Rattle.planus.proofs.Stepping.{unions_advanced, unions_reached}
use Rattle.planus.proofs.replaying.state.ReplayState.unions.Goals as goal

pub write_unions-requires : goal.write_unions-requires
write_unions-requires c =
    rw c.as_slice.ensures.value (unions_reached c.args.self.now c.requires.reached c.args.items.now c.in_ok-unions.unions.items c.in_ok-unions.ensures)

pub returns : goal.returns
returns c =
    unions_advanced c.args.items.now c.in_ok-unions.unions.items c.args.self.now c.in_ok-unions.ensures c.write_unions.result c.write_unions.new.self
    (subst (λ (all : List (UnionOffset (Unit {0}))). WritesValue vector_named (WritesUnionVector Answers all) c.args.self.now c.write_unions.result c.write_unions.new.self) c.as_slice.ensures.value c.write_unions.ensures)
