-- The messages of errors.
use Rattle.std.specs.Prelude.{ℕ, List, ◌++◌, codes}
use Rattle.std.specs.Fmt.{decimal}
use Rattle.planus_json_syntax.specs.declared.fault_kind.FaultKind.{FaultKind}
use Rattle.planus_json_syntax.specs.declared.fault_kind.FaultKind.TheVariants as fault
use Rattle.planus_json_syntax.specs.declared.json_error.JsonError.{JsonError}
use Rattle.planus_json_syntax.specs.declared.json_error.JsonError.TheVariants as errors

abbrev pub kind_text : FaultKind → List ℕ
kind_text fault.Strange = codes "no token begins with this byte"
kind_text fault.OpenComment = codes "the comment has no end"
kind_text fault.OpenString = codes "the string has no end"
kind_text fault.Control = codes "a control character in a string"
kind_text fault.Letter = codes "no such escape"
kind_text fault.Digits = codes "four hexadecimal digits are expected"
kind_text fault.Half = codes "half of a character"
kind_text fault.NotUtf8 = codes "the string is not UTF-8"
kind_text fault.Value = codes "a value is expected"
kind_text fault.Key = codes "a key is expected"
kind_text fault.Colon = codes "`:` is expected"
kind_text fault.ListEnd = codes "`,` or `]` is expected"
kind_text fault.ObjectEnd = codes "`,` or `}` is expected"
kind_text fault.TooDeep = codes "lists and objects nest deeper than 256"

abbrev pub json_error_text : JsonError → List ℕ
json_error_text errors.OutOfMemory = codes "out of memory"
json_error_text (errors.Fault at kind) = kind_text kind ++ (codes " at byte " ++ decimal at)
