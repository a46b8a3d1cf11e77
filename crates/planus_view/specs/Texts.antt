-- The messages of copy errors.
use Rattle.std.specs.Prelude.{ℕ, List, codes}
use Rattle.planus_read.specs.Texts.{error_text}
use Rattle.planus_view.specs.declared.copies.CopyError.{CopyError}
use Rattle.planus_view.specs.declared.copies.CopyError.TheVariants.{OutOfMemory, Read}

-- its own, or that of the read
abbrev pub copy_error_text : CopyError → List ℕ
copy_error_text OutOfMemory = codes "out of memory"
copy_error_text (Read error) = error_text error
