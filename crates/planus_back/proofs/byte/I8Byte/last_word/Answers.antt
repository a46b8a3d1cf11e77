use Rattle.std.proofs.Common.{ℤ}
use Rattle.std.specs.Int.{w8, cast_unsigned}
use Rattle.planus_back.proofs.Hashes.{last_each}
use Rattle.planus_back.proofs.byte.I8Byte.last_word.Goals as goal

pub returns : goal.returns
returns c =
    let word = c.in_ok-word.ensures.cases in
    last_each (λ (number : ℤ). cast_unsigned w8 number) c.args.numbers.now _ _ word.0 word.1.same c.word_of.ensures
