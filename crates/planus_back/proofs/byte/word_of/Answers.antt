use Rattle.std.proofs.Common.{◌≡◌, ℤ, length, ap, sym, ◌∙◌, pos, get_or, rules}
use Rattle.std.specs.Int.{w8, w64, cast_unsigned, from_le_bytes}
use Rattle.planus_back.proofs.Hashes.{word_of_eight}
use Rattle.planus_back.proofs.byte.word_of.Goals as goal

pub returns : goal.returns
returns c =
    let byte = λ (number : ℤ). cast_unsigned w8 number in
    let eight : length c.args.numbers.now ≡ 8 = search rules in
    let zeroth : c.to_byte.result ≡ byte (get_or c.args.numbers.now 0 (pos 0)) = search rules in
    let first : c.to_byte-2.result ≡ byte (get_or c.args.numbers.now 1 (pos 0)) = search rules in
    let second : c.to_byte-3.result ≡ byte (get_or c.args.numbers.now 2 (pos 0)) = search rules in
    let third : c.to_byte-4.result ≡ byte (get_or c.args.numbers.now 3 (pos 0)) = search rules in
    let fourth : c.to_byte-5.result ≡ byte (get_or c.args.numbers.now 4 (pos 0)) = search rules in
    let fifth : c.to_byte-6.result ≡ byte (get_or c.args.numbers.now 5 (pos 0)) = search rules in
    let sixth : c.to_byte-7.result ≡ byte (get_or c.args.numbers.now 6 (pos 0)) = search rules in
    let seventh : c.to_byte-8.result ≡ byte (get_or c.args.numbers.now 7 (pos 0)) = search rules in
    c.from_le_bytes.ensures ∙ rw (zeroth, first, second, third, fourth, fifth, sixth, seventh) (ap (from_le_bytes w64) (sym (word_of_eight byte c.args.numbers.now (pos 0) eight)))
