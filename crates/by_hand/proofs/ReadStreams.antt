-- What was read of a stream so far.
use Rattle.std.proofs.Common.{◌≡◌, ℕ, ◌+◌, ◌<◌, List, [], ◌∷◌, ◌++◌, length, Option, Some, None}
use Rattle.std.proofs.Common.{Bool, true, false, not, refl, sym, ap, ◌∙◌, subst}
use Rattle.std.specs.Prelude.{⊤}
use Rattle.std.specs.Option.{is_some}
use Rattle.planus.specs.read.declared.errors.ErrorKind.{ErrorKind}
use Rattle.planus.specs.read.Clauses.{FirstBroken}
use Rattle.planus.specs.read.SizePrefixed.{PrefixedThere, prefixed_clauses}
use Rattle.by_hand.specs.Streams.{BeginsWith}

abbrev pub FaultsFor : Option ErrorKind → List ℕ → Type 0
FaultsFor None rest = ⊤
FaultsFor (Some error) rest = (0 < length rest) × FirstBroken (prefixed_clauses rest) error

abbrev pub still_to_read : Option ErrorKind → List ℕ → ℕ
still_to_read None rest = length rest + 1
still_to_read (Some error) rest = 0

pub one_more : (stream : List ℕ) (contents : List (List ℕ)) (rest content next : List ℕ)
    → BeginsWith stream contents rest → PrefixedThere rest content next
    → BeginsWith stream (contents ++ content ∷ []) next
one_more stream [] rest content next begins there = (
  next,
  subst (λ B. PrefixedThere B content next) (sym begins) there,
  refl,
)
one_more stream (first ∷ contents) rest content next begins there = (
  begins.0,
  begins.1,
  one_more begins.0 contents rest content next begins.2 there,
)

pub no_fault : (fault : Option ErrorKind) (told : Bool) → is_some fault ≡ not told → told ≡ true
    → (rest : List ℕ) → FaultsFor fault rest
no_fault None told is e rest = tt
no_fault (Some error) told is e rest = absurd (let f : true ≡ false = is ∙ ap not e in cc)
