use Rattle.std.proofs.Common.{◌≡◌, ◌++◌, ◌∷◌, [], false, get_or, ap, ◌∙◌, arith}
use Rattle.std.specs.Prelude.{◌==◌, ℕ}
use Rattle.std.specs.Global.{Vec}
use Rattle.std.proofs.lemmas.List.{map_push, drop_all}
use Rattle.std.proofs.lemmas.Bool.Decides.{nat_tests}
use Rattle.planus_syntax.specs.Values.{names_of}
use Rattle.planus_resolve.proofs.Lists.{byte_next, word_cut, word_goes_on}
use Rattle.planus_resolve.proofs.words.cut_words.Goals.{then-b-eq32+in_ok-push, else-b-eq32+in-Ok}
use Rattle.planus_resolve.proofs.words.cut_words.Goals as goal

pub bytes-preserved : goal.bytes-preserved
bytes-preserved c =
    let b = get_or c.args.text.now c.bytes.b-index 0 in
    let r = byte_next c.args.text.now c.bytes.b-index 0 c.bytes-test.true in
    let words = names_of c.bytes.words.items in
    elim c.if-b-eq32.branch [
      | then-b-eq32+in_ok-push w ↦
          let n : names_of c.if-b-eq32.words.items ≡ words ++ c.bytes.word.items ∷ [] =
          ap (λ (v : Vec (Vec ℕ)). names_of v.items) w.words-is ∙ ap names_of w.in_ok-push.ensures.items ∙ map_push (λ (v : Vec ℕ). v.items) c.bytes.words.items c.bytes.word in
          let e : c.if-b-eq32.word.items ≡ [] = ap (λ (v : Vec ℕ). v.items) w.word-is ∙ w.new-word-then-b-eq32.ensures.items in
          rw (n, e) (word_cut words c.bytes.word.items b _ _ _ r w.if-b-eq32.true c.bytes.invariant)
      | else-b-eq32+in-Ok w ↦
          let n : names_of c.if-b-eq32.words.items ≡ words = ap (λ (v : Vec (Vec ℕ)). names_of v.items) w.words-is in
          let e : c.if-b-eq32.word.items ≡ c.bytes.word.items ++ b ∷ [] = ap (λ (v : Vec ℕ). v.items) w.word-is ∙ w.in-Ok.ensures.items in
          let other : (b == 32) ≡ false = grind (arith, nat_tests, w.if-b-eq32.false) in
          rw (n, e) (word_goes_on words c.bytes.word.items b _ _ _ r other c.bytes.invariant)
    ]

pub returns : goal.returns
returns c =
    let d = drop_all c.bytes.b-index c.args.text.now c.bytes-test.false in
    ap names_of c.in_ok-push-2.ensures.items ∙ map_push (λ (v : Vec ℕ). v.items) c.bytes.words.items c.bytes.word ∙ rw d at c.bytes.invariant
