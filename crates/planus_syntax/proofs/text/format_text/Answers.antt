use Rattle.planus_syntax.specs.Values.{schema_of}
use Rattle.planus_syntax.proofs.Composed.{spelled_lexes, text_lexes}
use Rattle.planus_syntax.proofs.Formatted.{formats, keeps, formatted_lexes, stays, plain_stays}
use Rattle.planus_syntax.proofs.text.format_text.Goals as goal

pub returns-in-Ok-canonical_text-clause-found : goal.returns-in-Ok-canonical_text-clause-found
returns-in-Ok-canonical_text-clause-found c =
    formats _ _ (schema_of c.in-Ok.field-0) c.in-Ok.ensures.whole c.in-Ok.ensures.found c.in-Ok-canonical_text.ensures

pub returns-in-Ok-canonical_text-clause-kept : goal.returns-in-Ok-canonical_text-clause-kept
returns-in-Ok-canonical_text-clause-kept c =
    keeps _ _ (formats _ _ (schema_of c.in-Ok.field-0) c.in-Ok.ensures.whole c.in-Ok.ensures.found c.in-Ok-canonical_text.ensures)

pub returns-in-Ok-canonical_text-clause-stays : goal.returns-in-Ok-canonical_text-clause-stays
returns-in-Ok-canonical_text-clause-stays c = λ source f. stays source _ _ f c.in-Ok-canonical_text.ensures

pub returns-in-Ok-canonical_text-clause-plain : goal.returns-in-Ok-canonical_text-clause-plain
returns-in-Ok-canonical_text-clause-plain c = λ schema i e. plain_stays _ _ schema i e c.in-Ok-canonical_text.ensures

pub returns-clause-only : goal.returns-clause-only
returns-clause-only c = λ schema parts w a e t.
    c.in-Err.ensures.only schema w (spelled_lexes c.args.text.now schema (parts, a, e, t))

pub returns-clause-stays : goal.returns-clause-stays
returns-clause-stays c = λ source f.
    c.in-Err.ensures.only f.schema f.whole (formatted_lexes source c.args.text.now f)

pub returns-clause-plain : goal.returns-clause-plain
returns-clause-plain c = λ schema i e.
    c.in-Err.ensures.only schema i.0 (text_lexes c.args.text.now schema i e)
