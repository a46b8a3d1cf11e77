use Rattle.std.proofs.Common.{◌/◌, length, sym, ap, ◌∙◌, bit_xor}
use Rattle.planus_back.specs.Hashes.{fold_of, last_number, hash_on}
use Rattle.planus_back.proofs.Hashes.{pair_more, rest_more}
use Rattle.planus_back.proofs.hash.hash_of.Goals as goal

pub loop-first-preserved : goal.loop-first-preserved
loop-first-preserved g c =
    let bytes_of = g.T.Byte.bytes_of in
    let l = c.loop-first in let behind = bytes_of c.in-Some.behind.now in let last = last_number (bytes_of c.args.key.now) in
    ap (λ h. hash_on (length behind / 16) l.two h last behind) c.fold.ensures
    ∙ pair_more l.one l.two last c.in-Some.first c.in-Some.second (bytes_of l.rest.now) behind c.in-Some.ensures ∙ l.invariant

pub returns : goal.returns
returns g c =
    let bytes_of = g.T.Byte.bytes_of in
    let l = c.loop-first in let rest = bytes_of l.rest.now in
    c.fold-2.ensures ∙ (λ k. fold_of (bit_xor l.one (c.first_of.ensures k)) (bit_xor l.two (c.last_of-last.ensures k)))
    ∙ sym (rest_more l.one l.two (last_number (bytes_of c.args.key.now)) rest c.in_default.ensures) ∙ l.invariant
