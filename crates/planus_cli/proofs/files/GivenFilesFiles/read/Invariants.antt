use Rattle.std.proofs.Common.{◌≡◌, drop}
use Rattle.planus_cli.specs.Disks.{text_named}
use Rattle.planus_cli.proofs.files.GivenFilesFiles.read.Given as goal

abbrev pub invariant-files : goal.invariant-files
invariant-files l = text_named (drop l.file-index l.self.files.now) l.name ≡ text_named l.self.files.now l.name
