use Rattle.std.proofs.Common.{subst, ap}
use Rattle.planus_syntax.specs.Values.{declaration_before, declaration_of, declarations_of, names_of}
use Rattle.planus_syntax.specs.Counting.{DeclarationCounted, EachCounted}
use Rattle.planus_syntax.specs.Tokens.{pieces_of}
use Rattle.planus_syntax.specs.Reading.{schema_at}
use Rattle.planus_syntax.proofs.Loops.{declaration_takes, declarations_looped, trailing_takes}
use Rattle.planus_syntax.proofs.Many.{ok}
use Rattle.planus_syntax.proofs.Steps.{fails_here, fails_later, reads_on}
use Rattle.planus_syntax.proofs.parse.schema_at.Goals as goal

pub list_of-requires : goal.list_of-requires
list_of-requires c = (declarations_looped, declaration_takes)

pub returns-in-Err : goal.returns-in-Err
unfolding schema_at
returns-in-Err c = fails_here _ _ _ c.in-Err.ensures.reads

pub returns-in-Err-docs_at : goal.returns-in-Err-docs_at
unfolding schema_at
returns-in-Err-docs_at c =
    fails_later _ _ _ _ c.in-Ok.ensures.reads.0 (fails_here _ _ _ c.in-Err-docs_at.ensures)

pub returns : goal.returns
unfolding schema_at
returns c =
    let end = trailing_takes (pieces_of c.in-Ok.value.1.now) _ c.in-Ok.ensures.end c.in-Ok-docs_at.ensures in (
      reads_on _ _ _ _ c.in-Ok.ensures.reads.0 (reads_on _ _ _ _ c.in-Ok-docs_at.ensures
          (ap (λ rest. ok (record { declarations = declarations_of c.in-Ok.value.0.items; trailing = names_of c.in-Ok-docs_at.value.0.items }, rest)) end.1)),
      subst (EachCounted DeclarationCounted declaration_of declaration_before c.in-Ok.value.0.items) end.0 c.in-Ok.ensures.reads.1,
    )
