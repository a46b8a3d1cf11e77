use Rattle.std.proofs.Common.{◌≡◌, [], drop, ap, sym, ◌∙◌}
use Rattle.planus_back.specs.Hashes.{number_on}
use Rattle.planus_back.proofs.Hashes.{last_short, none_left}
use Rattle.planus_back.proofs.hash.last_of.Goals as goal

pub returns : goal.returns
returns g c =
    let bytes_of = g.T.Byte.bytes_of in let key = c.args.key.now in let l = c.loop-byte in
    let none : bytes_of (drop l.byte-index key) ≡ [] = ap bytes_of (none_left l.byte-index key c.loop-byte-test.false) ∙ g.T.Byte.of_each [] in
    sym (ap (number_on l.number) none) ∙ l.invariant ∙ sym (last_short (bytes_of key) c.in_default.ensures)
