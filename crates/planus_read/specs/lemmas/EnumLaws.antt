-- Laws for enums.
use Rattle.std.specs.Prelude.{◌≡◌, ℕ, Bool, true, false, Option, Some, None, IsSome, if◌then◌else◌}
use Rattle.std.specs.Option.{option_and_then}
use Rattle.std.proofs.Common.{subst, sym}

pub is_some : {E : Type 0} (x : E) → IsSome (Some x)
is_some x = λ i. true

pub is_found : {E : Type 0} (x : E) (inside : Bool) (v : ℕ) (find : ℕ → Option E)
    → option_and_then find (if inside then Some v else None) ≡ Some x → IsSome (find v)
is_found {E} x true v find found = subst (λ (o : Option E). IsSome o) (sym found) (is_some x)
is_found {E} x false v find found = absurd (let no : ⊥ = cc in no)

pub same_value : {E : Type 0} {x y : E} → Some x ≡ Some y → x ≡ y
same_value {E} {x} {y} both = cc
