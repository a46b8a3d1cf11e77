use Rattle.std.proofs.Common.{◌≡◌, ◌++◌, drop, map}
use Rattle.planus_cli.specs.Completions.{spaced}
use Rattle.planus_cli.proofs.completions.put_words.Given as goal

abbrev pub invariant-words : goal.invariant-words
invariant-words l =
    l.text.items ++ spaced (map (λ w. w.now) (drop l.word-index l.words)) ≡ l.fn.text.items ++ spaced (map (λ w. w.now) l.words)
