-- The messages of errors.
use Rattle.std.specs.Prelude.{ℕ, List, ◌++◌, codes}
use Rattle.std.specs.String.{string_bytes}
use Rattle.planus_json.specs.declared.json_error.Fault.{Fault}
use Rattle.planus_json.specs.declared.json_error.JsonError.{JsonError}
use Rattle.planus_json.specs.declared.json_error.JsonError.TheVariants as errors

-- a path and what is wrong there
abbrev pub fault_text : Fault → List ℕ
fault_text fault = string_bytes fault.path ++ (codes " ! " ++ string_bytes fault.message)

abbrev pub json_error_text : JsonError → List ℕ
json_error_text errors.OutOfMemory = codes "out of memory"
json_error_text errors.BadSchema = codes "bad schema"
json_error_text errors.TooDeep = codes "too deep"
json_error_text errors.TooLong = codes "too long"
json_error_text (errors.Fault fault) = fault_text fault
