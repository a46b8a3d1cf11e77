-- The messages of errors.
use Rattle.std.specs.Prelude.{ℕ, List, codes}
use Rattle.planus.specs.Texts.{replay_error_text}
use Rattle.planus_dump.specs.declared.dumps.DumpError.{DumpError}
use Rattle.planus_dump.specs.declared.runs.DumpRunError.{DumpRunError}
use Rattle.planus_dump.specs.declared.runs.DumpRunError.TheVariants.{Replay, Dump}
use Rattle.planus_dump.specs.declared.dumps.DumpError.TheVariants.{OutOfMemory, BadSchema, TooDeep}
use Rattle.planus_dump.specs.declared.dumps.DumpError.TheVariants.{TooManyLines}

-- of a dump
abbrev pub dump_error_text : DumpError → List ℕ
dump_error_text OutOfMemory = codes "out of memory"
dump_error_text BadSchema = codes "bad schema"
dump_error_text TooDeep = codes "too deep"
dump_error_text TooManyLines = codes "too many lines"

-- of a run's dump
abbrev pub dump_run_error_text : DumpRunError → List ℕ
dump_run_error_text (Replay error) = replay_error_text error
dump_run_error_text (Dump error) = dump_error_text error
