-- A dump by the worked schema.
use Rattle.std.proofs.Common.{ℕ, List, Bool, Option, Some, None}
use Rattle.std.specs.Prelude.{Result, Ok, Err, IfOk, IfSome}
use Rattle.planus_dump.specs.declared.schemas.Schema.{Schema}
use Rattle.planus_dump.specs.Shapes.{HasShape}
use Rattle.planus_demo.specs.WorkedSchemas.{worked_tables, worked_unions}
use Rattle.planus_script.specs.DumpRuns.{WritesDump}
use Rattle.planus_demo.specs.Programs.{DumpsRoot}

pub dumps_root : {E : Type 0} (root : ℕ) (schema : Schema) (known before after : Option (List ℕ))
    (result : Result Bool E) → HasShape schema worked_tables worked_unions root
    → IfOk result (λ clean. IfSome known (λ input. WritesDump schema input clean before after))
    → IfOk result (λ clean. IfSome known (λ input. DumpsRoot root input clean before after))
dumps_root root schema None before after (Ok clean) shape written = tt
dumps_root root schema (Some input) before after (Ok clean) shape written = (schema, shape, written)
dumps_root root schema known before after (Err error) shape written = tt
