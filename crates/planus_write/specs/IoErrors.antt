use Rattle.std.specs.declared.io.ErrorKind.{ErrorKind}
use Rattle.std.specs.declared.io.ErrorKind.TheVariants as kind
use Rattle.planus_write.specs.declared.errors.BuildError.{BuildError}
use Rattle.planus_write.specs.declared.errors.BuildError.TheVariants.{OutOfMemory, TooLarge}

abbrev pub io_kind : BuildError → ErrorKind
io_kind OutOfMemory = kind.OutOfMemory
io_kind TooLarge = kind.FileTooLarge
