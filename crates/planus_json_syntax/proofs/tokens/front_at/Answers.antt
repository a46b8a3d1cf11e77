use Rattle.std.proofs.Common.{rules, arith, sym, ◌∙◌}
use Rattle.planus_json_syntax.proofs.Words.{word_front}
use Rattle.planus_json_syntax.proofs.tokens.front_at.Goals as goal

pub returns-then-is_word_byte-clause-reads : goal.returns-then-is_word_byte-clause-reads
returns-then-is_word_byte-clause-reads c =
    word_front c.args.bytes.now c.in-Some.after.now c.split_word.result.0.now c.split_word.result.1.now _ c.in-Some.first.now (search rules)
    (sym c.is_mark.ensures ∙ c.if-is_mark.false) (grind arith) (sym c.is_word_byte.ensures ∙ c.if-is_word_byte.true) c.split_word.ensures c.in_ok-word_text.ensures
