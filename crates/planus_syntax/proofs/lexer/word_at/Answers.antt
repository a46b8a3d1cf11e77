use Rattle.planus_syntax.proofs.Placed.{word_leads}
use Rattle.planus_syntax.proofs.Scanning.{a_word}
use Rattle.planus_syntax.proofs.lexer.word_at.Goals as goal

pub returns-clause-cuts : goal.returns-clause-cuts
returns-clause-cuts c =
    a_word c.args.bytes.now c.split.result.0.now c.split.result.1.now
    c.split.ensures c.requires.start c.requires.letter

pub returns-clause-starts : goal.returns-clause-starts
returns-clause-starts c =
    word_leads c.args.bytes.now c.split.result.0.now c.split.result.1.now
    c.split.ensures c.requires.start c.requires.letter
