-- The messages of errors.
use Rattle.std.specs.Prelude.{ℕ, List, codes, ◌++◌}
use Rattle.std.specs.Fmt.{decimal}
use Rattle.planus_script.specs.declared.run.RunError.{RunError}
use Rattle.planus_script.specs.declared.run.RunError.TheVariants as run
use Rattle.planus_script.specs.declared.script.ParseError.{ParseError}
use Rattle.planus_script.specs.declared.script.ParseError.TheVariants.{OutOfMemory, Line}
use Rattle.planus_script.specs.declared.script.ReadFault.{ReadFault}
use Rattle.planus_script.specs.declared.script.ReadFault.TheVariants.{NotUtf8, UnknownCommand}
use Rattle.planus_script.specs.declared.script.ReadFault.TheVariants.{BadNumber, BadHex, BadField}
use Rattle.planus_script.specs.declared.script.ReadFault.TheVariants.{BadIdentifier}

-- of a line
abbrev pub read_fault_text : ReadFault → List ℕ
read_fault_text NotUtf8 = codes "not utf-8"
read_fault_text UnknownCommand = codes "unknown command"
read_fault_text BadNumber = codes "bad number"
read_fault_text BadHex = codes "bad hex"
read_fault_text BadField = codes "bad field"
read_fault_text BadIdentifier = codes "bad identifier"

-- of a script, with the number of the line
abbrev pub parse_error_text : ParseError → List ℕ
parse_error_text OutOfMemory = codes "out of memory"
parse_error_text (Line number fault) =
    codes "line " ++ (decimal number ++ (codes ": " ++ read_fault_text fault))

-- of a run
abbrev pub run_error_text : RunError → List ℕ
run_error_text run.OutOfMemory = codes "out of memory"
run_error_text run.Read = codes "reading failed"
run_error_text run.Write = codes "writing failed"
