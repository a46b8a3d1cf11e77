use Rattle.std.proofs.Common.{[], refl, arith, rules}
use Rattle.planus_back.proofs.Same.{rest_same, words_differ, words_same, last_differ, last_same}
use Rattle.planus_back.proofs.byte.same_words.Goals as goal

pub loop-word-init : goal.loop-word-init
loop-word-init c = ([], refl, refl)

pub returns-then-from_le_bytes : goal.returns-then-from_le_bytes
returns-then-from_le_bytes c = (
  λ never. absurd (search rules),
  λ same. absurd (last_differ c.args.left.now c.args.right.now c.in-Some.last.now c.in-Some-last_chunk.end.now _ _
      c.in-Some.ensures.cases.1.same c.in-Some-last_chunk.ensures.cases.1.same c.from_le_bytes.ensures c.from_le_bytes-2.ensures c.if-from_le_bytes.true same),
)

pub returns-then-from_le_bytes-2 : goal.returns-then-from_le_bytes-2
returns-then-from_le_bytes-2 c =
    let l = c.loop-word in let word = c.in-Some-split_first_chunk in let other = c.in-Some-split_first_chunk-2 in (
      λ never. absurd (search rules),
      λ same. absurd (words_differ c.args.left.now c.args.right.now l.invariant.0 l.left.now l.right.now l.invariant.1 l.invariant.2 (omega arith)
          word.word.now word.behind.now other.other.now other.rest.now _ _ word.ensures.cases.0 word.ensures.cases.1 word.ensures.cases.2 other.ensures.cases.0 other.ensures.cases.1 other.ensures.cases.2
          c.from_le_bytes-in-Some-split_first_chunk.ensures c.from_le_bytes-in-Some-split_first_chunk-2.ensures c.if-from_le_bytes-2.true same),
    )

pub loop-word-preserved : goal.loop-word-preserved
loop-word-preserved c =
    let l = c.loop-word in let word = c.in-Some-split_first_chunk in let other = c.in-Some-split_first_chunk-2 in
    words_same c.args.left.now c.args.right.now l.invariant.0 l.left.now l.right.now l.invariant.1 l.invariant.2 (omega arith)
    word.word.now word.behind.now other.other.now other.rest.now _ _ word.ensures.cases.0 word.ensures.cases.1 word.ensures.cases.2 other.ensures.cases.0 other.ensures.cases.1 other.ensures.cases.2
    c.from_le_bytes-in-Some-split_first_chunk.ensures c.from_le_bytes-in-Some-split_first_chunk-2.ensures c.requires.left c.requires.right c.if-from_le_bytes-2.false

pub returns : goal.returns
returns c =
    let l = c.loop-word in (
      λ _. rest_same c.args.left.now c.args.right.now l.invariant.0 l.left.now l.right.now l.invariant.1 l.invariant.2 (omega arith) (omega (arith, c.in_default-split_first_chunk.ensures.cases)) (omega (arith, c.in-Some.ensures.cases.0))
          (last_same c.args.left.now c.args.right.now c.in-Some.last.now c.in-Some-last_chunk.end.now _ _
          c.in-Some.ensures.cases.1.same c.in-Some-last_chunk.ensures.cases.1.same c.from_le_bytes.ensures c.from_le_bytes-2.ensures
          c.in-Some.ensures.cases.1.long c.in-Some-last_chunk.ensures.cases.1.long c.requires.left c.requires.right c.if-from_le_bytes.false),
      λ _. search rules,
    )
