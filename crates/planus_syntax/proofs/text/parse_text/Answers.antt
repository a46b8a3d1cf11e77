use Rattle.planus_syntax.specs.Values.{schema_of}
use Rattle.planus_syntax.proofs.Composed.{lexed_spells, spelled_lexes, text_lexes}
use Rattle.planus_syntax.proofs.text.parse_text.Goals as goal

pub returns-in-Ok-clause-found : goal.returns-in-Ok-clause-found
returns-in-Ok-clause-found c =
    lexed_spells c.args.text.now (schema_of c.in-Ok.schema) c.in-Ok.ensures.found

pub returns-in-Ok-clause-only : goal.returns-in-Ok-clause-only
returns-in-Ok-clause-only c = λ schema w s.
    c.in-Ok.ensures.only schema w (spelled_lexes c.args.text.now schema s)

pub returns-in-Ok-clause-canonical : goal.returns-in-Ok-clause-canonical
returns-in-Ok-clause-canonical c = λ schema h e.
    c.in-Ok.ensures.only schema h.0 (text_lexes c.args.text.now schema h e)

pub returns-in-Err-clause-only : goal.returns-in-Err-clause-only
returns-in-Err-clause-only c = λ schema w s.
    c.in-Err.ensures.only schema w (spelled_lexes c.args.text.now schema s)

pub returns-in-Err-clause-canonical : goal.returns-in-Err-clause-canonical
returns-in-Err-clause-canonical c = λ schema h e.
    c.in-Err.ensures.only schema h.0 (text_lexes c.args.text.now schema h e)
