use Rattle.std.proofs.Common.{◌≡◌, ℕ, ◌-◌, ◌≤◌, List, length, take, drop, ap, sym, subst, ◌∙◌, Some}
use Rattle.std.proofs.lemmas.List.{take_rest}
use Rattle.std.specs.Int.{w32}
use Rattle.planus_read.specs.Bytes.{Num}
use Rattle.planus_read.proofs.SizePrefixed.{prefixed_answer}
use Rattle.planus_read.proofs.size_prefixed.read_size_prefixed.Goals as goal

pub returns : goal.returns
returns c =
    let B : List ℕ = c.args.bytes.now in let size : ℕ = c.in_ok-size.field-0 in
    let behind : take (length B - 4) (drop 4 B) ≡ drop 4 B = take_rest B 4 in
    let word : Num B 0 w32 ≡ Some size =
    ap (λ l. Num l 0 w32) (sym c.new-whole.ensures.bytes) ∙ c.in_ok-size.ensures in
    prefixed_answer B size c.new.result c.split_at.result.1 word
    (subst (λ l. size ≤ length l) behind c.if-size-behind.false)
    (c.new.ensures.bytes ∙ c.split_at.ensures.front ∙ ap (take size) behind) c.new.ensures.start
    (c.split_at.ensures.back ∙ ap (drop size) behind)
