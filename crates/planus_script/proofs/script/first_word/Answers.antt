use Rattle.std.proofs.Common.{lit<, None, Some}
use Rattle.std.proofs.lemmas.Str.Pattern.{split_once_first}
use Rattle.planus_script.proofs.Words.{uncut, cut}
use Rattle.planus_script.proofs.script.first_word.Goals as goal

pub returns-in-None-clause-words : goal.returns-in-None-clause-words
returns-in-None-clause-words c = uncut c.args.line.now (split_once_first 32 c.args.line.now None c.in-None.ensures.cases (lit< tt))

pub returns-in-Some-clause-words : goal.returns-in-Some-clause-words
returns-in-Some-clause-words c =
    let parts = split_once_first 32 c.args.line.now (Some (c.in-Some.word, c.in-Some.rest)) c.in-Some.ensures.cases (lit< tt) in
    rw (parts.1, parts.2) (cut c.args.line.now parts.0)
