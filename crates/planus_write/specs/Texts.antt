use Rattle.std.specs.Prelude.{ℕ, List, codes}
use Rattle.planus_write.specs.declared.errors.BuildError.{BuildError}
use Rattle.planus_write.specs.declared.errors.BuildError.TheVariants.{OutOfMemory, TooLarge}

-- the error's message
abbrev pub build_error_text : BuildError → List ℕ
build_error_text OutOfMemory = codes "out of memory"
build_error_text TooLarge = codes "too large"
