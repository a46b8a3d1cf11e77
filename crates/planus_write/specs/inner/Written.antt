use Rattle.std.specs.Prelude.{ℕ, Result, Ok, Err}
use Rattle.planus_write.specs.declared.errors.BuildError.{BuildError}
use Rattle.planus_write.specs.declared.errors.BuildError.TheVariants.{OutOfMemory, TooLarge}
use Rattle.planus_write.specs.declared.written.Written.{Written}
use Rattle.planus_write.specs.declared.written.Written.TheVariants.{At, LacksMemory, PassesLimit}

abbrev pub place_of : Written → Result ℕ BuildError
place_of (At place) = Ok place
place_of LacksMemory = Err OutOfMemory
place_of PassesLimit = Err TooLarge
