-- The size of a table's fields, one after another.
use Rattle.std.proofs.Common.{◌≡◌, ℕ, ◌+◌, ◌-◌, ◌<◌, ◌≤◌, List, [], ◌∷◌, ◌++◌, map, take, drop, sym, ap, ◌∙◌, arith, Some, None, false}
use Rattle.std.specs.Prelude.{nat_lt, Bool, true, if◌then◌else◌}
use Rattle.std.specs.Option.{is_none}
use Rattle.std.proofs.lemmas.Bool.Decides.{nat_tests}
use Rattle.std.proofs.lemmas.List.{map-append}
use Rattle.planus.specs.Steps.{FieldStep, content_of, bare_field}
use Rattle.planus.specs.declared.replaying.steps.Field as code
use Rattle.planus.specs.Slots.{size_of, fields_size, greatest_size, size_fault}
use Rattle.planus.specs.declared.replaying.faults.Why.TheVariants.{TableTooBig}
use Rattle.planus.proofs.Found.{around}

pub size_both : (xs ys : List (ℕ × FieldStep)) → fields_size (xs ++ ys) ≡ fields_size xs + fields_size ys
size_both [] ys = omega arith
size_both (entry ∷ xs) ys = let rest = size_both xs ys in omega (arith, rest)

module _ (all : List code.Field) (i : ℕ) (x : code.Field) (step : take (i + 1) all ≡ take i all ++ x ∷ []) where
  pub size_around : fields_size (map bare_field all)
      ≡ fields_size (map bare_field (take i all)) + (size_of (content_of x.value) + fields_size (map bare_field (drop (i + 1) all)))
  size_around =
      ap (λ fields. fields_size (map bare_field fields)) (sym (around all i x step))
      ∙ ap fields_size (map-append bare_field (take i all) (x ∷ drop (i + 1) all))
      ∙ size_both (map bare_field (take i all)) (bare_field x ∷ map bare_field (drop (i + 1) all))

  module _ (room size : ℕ) (is : size ≡ size_of (content_of x.value)) (so_far : room + fields_size (map bare_field (take i all)) ≡ 65531) where
    pub size_is_large : room < size → false ≡ is_none (size_fault (map bare_field all))
    size_is_large lt =
        let whole = size_around in
        let test : nat_lt greatest_size (fields_size (map bare_field all)) ≡ true = grind (arith, nat_tests, whole, is, so_far, lt) in
        sym (ap (λ (large : Bool). is_none (if large then Some TableTooBig else None)) test)

    pub size_push : size ≤ room → room - size + fields_size (map bare_field (take (i + 1) all)) ≡ 65531
    size_push enough =
        let more : fields_size (map bare_field (take (i + 1) all)) ≡ fields_size (map bare_field (take i all)) + (size_of (content_of x.value) + 0)
        = ap (λ fields. fields_size (map bare_field fields)) step ∙ ap fields_size (map-append bare_field (take i all) (x ∷ []))
        ∙ size_both (map bare_field (take i all)) (bare_field x ∷ []) in
        omega (arith, more, is, so_far, enough)
