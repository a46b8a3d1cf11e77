use Rattle.planus_json_syntax.proofs.Words.{word_utf8}
use Rattle.planus_json_syntax.proofs.tokens.word_text.Goals as goal

pub unreachable-requires : goal.unreachable-requires
unreachable-requires c = c.in-Err.ensures.cases.0 (word_utf8 c.args.word.now c.requires)
