use Rattle.std.proofs.Common.{◌≡◌, ℕ, List, [], ◌∷◌, ◌+◌, ◌++◌, length, chars, sym, ap, ◌∙◌, map-id, arith, length-append}
use Rattle.std.specs.Prelude.{min}
use Rattle.std.specs.List.{flat_map}
use Rattle.std.proofs.lemmas.List.{append-nil}
use Rattle.std.proofs.lemmas.List.Concat.{flat_map-append}
use Rattle.std.proofs.lemmas.Iterator.{YieldsList-from_chars}
use Rattle.std.proofs.lemmas.Iterator.Consumers.{YieldsList-end}
use Rattle.planus_dump.specs.Lines.{escaped, quoted}
use Rattle.planus_dump.proofs.printed.quoted_size.Goals as goal

quoted_length : (text : List ℕ) → length (quoted text) ≡ 2 + length (flat_map escaped (chars text))
quoted_length text = omega (arith, length-append (flat_map escaped (chars text)) (34 ∷ []))

more : (cs : List ℕ) (c : ℕ) → length (flat_map escaped (cs ++ c ∷ [])) ≡ length (flat_map escaped cs) + length (escaped c)
more cs c =
    ap length (flat_map-append escaped cs (c ∷ [])) ∙ length-append (flat_map escaped cs) (escaped c ++ [])
    ∙ ap (λ bytes. length (flat_map escaped cs) + length bytes) (append-nil (escaped c))

capped : (a b all most : ℕ) → all ≡ a + b → min (min a most + b) most ≡ min all most
capped a b all most e = omega (arith, e)

pub returns : goal.returns
returns c =
    let end = YieldsList-end (YieldsList-from_chars c.args.text.now c.utf8.text cc) c.loop-c.yielded _ c.loop-c.yielded_by _ _ c.in-None.is c.next.ensures.steps in
    let all : c.loop-c.yielded ≡ chars c.args.text.now = sym (map-id c.loop-c.yielded) ∙ end.0 in
    c.loop-c.invariant ∙ ap (λ cs. min (2 + length (flat_map escaped cs)) 18446744073709551615) all
    ∙ ap (λ n. min n 18446744073709551615) (sym (quoted_length c.args.text.now))
