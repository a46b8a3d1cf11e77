use Rattle.std.proofs.Common.{◌≡◌, take}
use Rattle.std.specs.Option.{option_copied}
use Rattle.planus_tie.specs.Files.{text_at}
use Rattle.planus_tie.proofs.files.text_at.Given as goal

abbrev pub invariant-files : goal.invariant-files
invariant-files l = option_copied l.found ≡ text_at l.path (take l.file-index l.files)
