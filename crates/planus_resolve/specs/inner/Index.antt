-- Maps from full names to their first declarations, and of names that are taken.
use Rattle.std.specs.Prelude.{◌≡◌, ℕ, List, Option}
use Rattle.std.specs.BTreeMap.{BTreeMap, get_by}
use Rattle.std.specs.Ordering.{nat_cmp}
use Rattle.std.specs.Cmp.Lexicographic.{slice_cmp}
use denote.Ref.{Bor}
use Rattle.planus_schema.specs.Distinct.{is_in}
use Rattle.planus_resolve.specs.Names.{HeadV, index_of, is_set}
use Rattle.planus_resolve.specs.Uses.{ending}

abbrev pub index_at : BTreeMap (Bor (List ℕ)) ℕ → List ℕ → Option ℕ
index_at m name = get_by (λ k. slice_cmp nat_cmp name k.now) m

-- the index of the first declaration whose name ends with each word
abbrev pub IsLastIndex : BTreeMap (Bor (List ℕ)) ℕ → List HeadV → Type 0
IsLastIndex m hs = (word : List ℕ) → index_at m word ≡ ending hs word

-- the index of the first declaration of each name
abbrev pub IsIndex : BTreeMap (Bor (List ℕ)) ℕ → List HeadV → Type 0
IsIndex m hs = (name : List ℕ) → index_at m name ≡ index_of hs name

-- the keys are these names
abbrev pub IsTaken : BTreeMap (Bor (List ℕ)) ℕ → List (List ℕ) → Type 0
IsTaken m names = (name : List ℕ) → is_set (index_at m name) ≡ is_in names name
