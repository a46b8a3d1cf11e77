-- Fields added after others.
use Rattle.std.proofs.Common.{◌≡◌, List, ◌++◌, ap, ◌∙◌}
use Rattle.std.proofs.lemmas.List.{append_assoc}

pub behind :
    {A : Type 0} (before first some more : List A) → some ≡ before ++ first
    → some ++ more ≡ before ++ (first ++ more)
behind before first some more is =
    ap (λ all. all ++ more) is ∙ append_assoc before first more

pub more :
    {A : Type 0} (before first some fresh all : List A) → some ≡ before ++ first
    → all ≡ some ++ fresh → all ≡ before ++ (first ++ fresh)
more before first some fresh all is then = then ∙ behind before first some fresh is
