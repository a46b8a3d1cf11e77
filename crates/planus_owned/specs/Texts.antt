-- The messages of errors.
use Rattle.std.specs.Prelude.{ℕ, List, codes}
use Rattle.planus_read.specs.Texts.{error_text}
use Rattle.planus_owned.specs.declared.errors.OwnError.{OwnError}
use Rattle.planus_owned.specs.declared.errors.OwnError.TheVariants.{OutOfMemory, Read, TooDeep}

-- its own, or that of the read
abbrev pub own_error_text : OwnError → List ℕ
own_error_text OutOfMemory = codes "out of memory"
own_error_text (Read error) = error_text error
own_error_text TooDeep = codes "tables are nested too deeply"
