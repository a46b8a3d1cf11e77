use Rattle.std.proofs.Common.{ℕ, refl}
use Rattle.std.specs.Int.{w64}
use Rattle.planus_write.specs.declared.offset.List.{List as ListOf}
use Rattle.planus.proofs.Stepping.{numbers_advanced}
use Rattle.planus.proofs.replaying.state.ReplayState.u64s.Goals as goal

pub returns : goal.returns
returns c =
    numbers_advanced 8 w64 c.args.items.now refl c.requires c.args.self.now (ListOf ℕ) c.write.result c.write.new.self c.write.ensures
