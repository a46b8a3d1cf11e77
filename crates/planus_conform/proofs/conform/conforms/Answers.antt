use Rattle.std.proofs.Common.{◌≡◌, List, [], sym, ◌∙◌}
use Rattle.std.specs.Prelude.{Result, Ok, Err, IfOk, Vec}
use Rattle.std.specs.declared.alloc.Global.{Global}
use Rattle.std.specs.declared.alloc.AllocError.{AllocError}
use Rattle.planus_schema.specs.declared.schema.Schema.{Schema}
use Rattle.planus_conform.specs.declared.breaks.Break.{Break}
use Rattle.planus_conform.specs.declared.breaks.Way.{Way}
use Rattle.planus_conform.specs.declared.rename.Rename.{Rename}
use Rattle.planus_conform.specs.Breaks.{breaks_of}
use Rattle.planus_conform.specs.Matching.{matches_of}
use Rattle.planus_conform.specs.Conforms.{Conforms}
use Rattle.planus_conform.proofs.Alike.{conforming}
use Rattle.planus_conform.proofs.conform.conforms.Goals as goal

if_none : (w : Way) (rs : List Rename) (old new : Schema) (r : Result (Vec Break Global) AllocError)
    → IfOk r (λ found. found.items ≡ breaks_of w rs old new) → IfOk r (λ found. found.items ≡ [] → Conforms w rs old new)
if_none w rs old new (Ok found) e = λ none. conforming w (matches_of rs old.declarations.items new.declarations.items) old new (sym e ∙ none)
if_none w rs old new (Err error) e = tt

pub returns-clause-conforms : goal.returns-clause-conforms
returns-clause-conforms c =
    if_none c.args.way c.args.renames.now c.args.old.now c.args.new.now c.breaks_of.result c.breaks_of.ensures
