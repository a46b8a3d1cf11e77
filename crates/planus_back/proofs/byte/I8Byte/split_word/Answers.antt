use Rattle.std.proofs.Common.{ℤ}
use Rattle.std.specs.Int.{w8, cast_unsigned}
use Rattle.planus_back.proofs.Hashes.{splits_each}
use Rattle.planus_back.proofs.byte.I8Byte.split_word.Goals as goal

pub returns : goal.returns
returns c = splits_each (λ (number : ℤ). cast_unsigned w8 number) c.args.numbers.now _ _ _ c.in_ok-word.ensures.cases c.word_of.ensures
