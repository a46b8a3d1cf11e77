-- Facts on lists.
use Rattle.std.proofs.Common.{◌≡◌, ℕ, suc, zero, ◌+◌, ◌≤◌, List, [], ◌∷◌, ◌++◌, length, map, drop, refl}
use Rattle.std.proofs.Common.{ap, ◌∙◌, subst, arith, Option, Some, None, Bool, true, false}
use Rattle.std.specs.Prelude.{slice_get, nat_lt, ◌-◌, ◌==◌, if◌then◌else◌}
use Rattle.std.specs.List.{AllByRecursion}
use Rattle.std.specs.Option.{option_map, option_and_then}
use Rattle.std.proofs.lemmas.Bool.Decides.{nat_tests}
use Rattle.planus_write.specs.Parts.{Named}
use Rattle.planus.specs.Runs.{Listed, named_at, value_distance, distance_at, value_at, with_one}
use Rattle.planus.specs.Runs.{all_of, union_of}
use Rattle.planus.specs.inner.Names.{listed_from, written_at}

pub all_weaker : {X : Type 0} (P Q : X → Type 0) → ((x : X) → P x → Q x) → (xs : List X) → AllByRecursion P xs → AllByRecursion Q xs
all_weaker P Q weaker [] h = h
all_weaker P Q weaker (x ∷ xs) h = (weaker x h.0, all_weaker P Q weaker xs h.1)

pub all_unmapped : {X Y : Type 0} (P : Y → Type 0) (f : X → Y) (xs : List X) → AllByRecursion P (map f xs) → AllByRecursion (λ x. P (f x)) xs
all_unmapped P f [] h = tt
all_unmapped P f (x ∷ xs) h = (h.0, all_unmapped P f xs h.1)

pub all_push : {X : Type 0} (P : X → Type 0) (xs : List X) (y : X) → AllByRecursion P xs → P y → AllByRecursion P (xs ++ y ∷ [])
all_push P [] y h new = (new, tt)
all_push P (x ∷ xs) y h new = (h.0, all_push P xs y h.1 new)

pub listed_push_some : (n : ℕ) (ds : List (Option Named)) (d : Named) → listed_from n (ds ++ Some d ∷ []) ≡ listed_from n ds ++ record { step = n + length ds; named = d } ∷ []
listed_push_some n [] d = ap (λ m. record { step = m; named = d } ∷ []) (omega arith)
listed_push_some n (None ∷ ds) d = listed_push_some (n + 1) ds d ∙ ap (λ m. listed_from (n + 1) ds ++ record { step = m; named = d } ∷ []) (omega arith)
listed_push_some n (Some e ∷ ds) d =
    ap (λ ps. record { step = n; named = e } ∷ ps) (listed_push_some (n + 1) ds d ∙ ap (λ m. listed_from (n + 1) ds ++ record { step = m; named = d } ∷ []) (omega arith))

pub listed_push_none : (n : ℕ) (ds : List (Option Named)) → listed_from n (ds ++ None ∷ []) ≡ listed_from n ds
listed_push_none n [] = refl
listed_push_none n (None ∷ ds) = listed_push_none (n + 1) ds
listed_push_none n (Some e ∷ ds) = ap (λ ps. record { step = n; named = e } ∷ ps) (listed_push_none (n + 1) ds)

same_number : (n : ℕ) → (n == n + 0) ≡ true
same_number n = grind (arith, nat_tests)

later_number : (n i : ℕ) → (n == n + suc i) ≡ false
later_number n i = grind (arith, nat_tests)

pub found_at : (n : ℕ) (ds : List (Option Named)) (i : ℕ) (d : Named) → slice_get ds i ≡ Some (Some d) → named_at (listed_from n ds) (n + i) ≡ Some d
found_at n [] i d e = (cc)
found_at n (None ∷ ds) zero d e = (cc)
found_at n (None ∷ ds) (suc i) d e = subst (λ m. named_at (listed_from (n + 1) ds) m ≡ Some d) (let same : n + 1 + i ≡ n + suc i = omega arith in same) (found_at (n + 1) ds i d e)
found_at n (Some x ∷ ds) zero d e =
    let same : x ≡ d = cc in
    rw (same_number n) (ap (λ (y : Named). Some y) same)
found_at n (Some x ∷ ds) (suc i) d e =
    rw (later_number n i) (subst (λ m. named_at (listed_from (n + 1) ds) m ≡ Some d) (let same : n + 1 + i ≡ n + suc i = omega arith in same) (found_at (n + 1) ds i d e))

pub named_value : (first : ℕ) (since : List (Option Named)) (step : ℕ) (name : Named) → written_at first since step ≡ Some (Some name) → named_at (listed_from first since) step ≡ Some name
named_value first since step name h = by_test (nat_lt step first) refl h
  where
    by_test : (earlier : Bool) → nat_lt step first ≡ earlier → (if earlier then None else slice_get since (step - first)) ≡ Some (Some name) → named_at (listed_from first since) step ≡ Some name
    by_test true is e = (cc)
    by_test false is e =
        let from : first ≤ step = grind (arith, nat_tests, is) in
        subst (λ n. named_at (listed_from first since) n ≡ Some name) (let at : first + (step - first) ≡ step = omega (arith, from) in at)
        (found_at first since (step - first) name e)

pub all_named : (P : Listed → Type 0) (xs : List Listed) (k : ℕ) (m : Named) → AllByRecursion P xs → named_at xs k ≡ Some m → P (record { step = k; named = m })
all_named P [] k m h e = (cc)
all_named P (one ∷ xs) k m h e = by_test (λ later. all_named P xs k m h.1 later) (one.step == k) refl e
  where
    by_test : (named_at xs k ≡ Some m → P (record { step = k; named = m })) → (equal : Bool) → (one.step == k) ≡ equal
        → (if equal then Some one.named else named_at xs k) ≡ Some m → P (record { step = k; named = m })
    by_test further true is e =
        let number : one.step ≡ k = grind (arith, nat_tests, is) in
        let same : one.named ≡ m = cc in
        subst (λ (n : Named). P (record { step = k; named = n })) same (subst (λ n. P (record { step = n; named = one.named })) number h.0)
    by_test further false is e = further e

pub made_of : {X Y : Type 0} (f : X → Y) (o : Option X) (y : Y) → option_map f o ≡ Some y → (x : X) × (o ≡ Some x) × (f x ≡ y)
made_of f None y e = (cc)
made_of f (Some x) y e = (x, refl, (let same : f x ≡ y = cc in same))

pub made_after : {X Y : Type 0} (f : X → Option Y) (o : Option X) (y : Y) → option_and_then f o ≡ Some y → (x : X) × (o ≡ Some x) × (f x ≡ Some y)
made_after f None y e = (cc)
made_after f (Some x) y e = (x, refl, e)

pub all_made : {Y : Type 0} (one : Option Y) (others : Option (List Y)) (all : List Y) → with_one one others ≡ Some all
    → (y : Y) × (more : List Y) × (one ≡ Some y) × (others ≡ Some more) × (y ∷ more ≡ all)
all_made None others all h = (cc)
all_made (Some y) None all h = (cc)
all_made (Some y) (Some more) all h = (y, more, refl, refl, (let same : y ∷ more ≡ all = cc in same))

pub all_more : {X Y : Type 0} (f g : X → Option Y) → ((x : X) (y : Y) → f x ≡ Some y → g x ≡ Some y) → (xs : List X) (ys : List Y) → all_of f xs ≡ Some ys → all_of g xs ≡ Some ys
all_more f g more [] ys h = h
all_more f g more (x ∷ xs) ys h =
    let both = all_made (f x) (all_of f xs) ys h in
    rw (more x both.0 both.2, all_more f g more xs both.1 both.3) (ap Some both.4)

pub all_of_push : {X Y : Type 0} (f : X → Option Y) (xs : List X) (ys : List Y) (x : X) (y : Y) → all_of f xs ≡ Some ys → f x ≡ Some y → all_of f (xs ++ x ∷ []) ≡ Some (ys ++ y ∷ [])
all_of_push {Y = Y} f [] ys x y h is =
    let none : [] ≡ ys = cc in
    rw is (ap (λ (all : List Y). Some (all ++ y ∷ [])) none)
all_of_push {Y = Y} f (z ∷ xs) ys x y h is =
    let both = all_made (f z) (all_of f xs) ys h in
    rw (both.2, all_of_push f xs both.1 x y both.3 is) (ap (λ (all : List Y). Some (all ++ y ∷ [])) both.4)

pub all_there : {X Y : Type 0} (P : Y → Type 0) (f : X → Option Y) → ((x : X) (y : Y) → f x ≡ Some y → P y) → (xs : List X) (ys : List Y) → all_of f xs ≡ Some ys → AllByRecursion P ys
all_there P f holds [] ys h =
    let none : [] ≡ ys = cc in subst (AllByRecursion P) none tt
all_there P f holds (x ∷ xs) ys h =
    let both = all_made (f x) (all_of f xs) ys h in
    subst (AllByRecursion P) both.4 (holds x both.0 both.2, all_there P f holds xs both.1 both.3)

pub named_more : (listed more : List Listed) (step : ℕ) (named : Named) → named_at listed step ≡ Some named → named_at (listed ++ more) step ≡ Some named
named_more [] more step named h = (cc)
named_more (one ∷ listed) more step named h = by_test (named_more listed more step named) (one.step == step) h
  where
    by_test : (named_at listed step ≡ Some named → named_at (listed ++ more) step ≡ Some named) → (equal : Bool) → (if equal then Some one.named else named_at listed step) ≡ Some named → (if equal then Some one.named else named_at (listed ++ more) step) ≡ Some named
    by_test further true h = h
    by_test further false h = further h

pub named_new : (listed : List Listed) (one : Listed) (n : ℕ) → one.step ≡ n → named_at listed n ≡ None → named_at (listed ++ one ∷ []) n ≡ Some one.named
named_new [] one n number none =
    let test : (one.step == n) ≡ true = grind (arith, nat_tests, number) in
    ap (λ found. if found then Some one.named else None) test
named_new (first ∷ listed) one n number none = by_test (named_new listed one n number) (first.step == n) none
  where
    by_test : (named_at listed n ≡ None → named_at (listed ++ one ∷ []) n ≡ Some one.named) → (equal : Bool) → (if equal then Some first.named else named_at listed n) ≡ None
        → (if equal then Some first.named else named_at (listed ++ one ∷ []) n) ≡ Some one.named
    by_test further true none = (cc)
    by_test further false none = further none

pub distance_more : (which : Named → Option ℕ) (listed more : List Listed) (step distance : ℕ) → distance_at which listed step ≡ Some distance → distance_at which (listed ++ more) step ≡ Some distance
distance_more which listed more step distance h =
    let made = made_after which (named_at listed step) distance h in
    rw (named_more listed more step made.0 made.1) made.2

pub union_made : (listed : List Listed) (item union : ℕ × ℕ) → union_of listed item ≡ Some union
    → (distance : ℕ) × ((item.0 == 0) ≡ false) × (value_at listed item.1 ≡ Some distance) × ((item.0, distance) ≡ union)
union_made listed item union h = by_test (item.0 == 0) refl h
  where
    by_test : (zero : Bool) → (item.0 == 0) ≡ zero → (if zero then None else option_map (λ distance. (item.0, distance)) (value_at listed item.1)) ≡ Some union
        → (distance : ℕ) × ((item.0 == 0) ≡ false) × (value_at listed item.1 ≡ Some distance) × ((item.0, distance) ≡ union)
    by_test true is e = (cc)
    by_test false is e =
        let made = made_of (λ (distance : ℕ). (item.0, distance)) (value_at listed item.1) union e in (made.0, is, made.1, made.2)

pub union_more : (listed more : List Listed) (item union : ℕ × ℕ) → union_of listed item ≡ Some union → union_of (listed ++ more) item ≡ Some union
union_more listed more item union h =
    let made = union_made listed item union h in
    rw (made.1, distance_more value_distance listed more item.1 made.0 made.2) (ap Some made.3)

pub get_push : {X : Type 0} (xs : List X) (y x : X) (k : ℕ) → slice_get xs k ≡ Some x → slice_get (xs ++ y ∷ []) k ≡ Some x
get_push [] y x k h = (cc)
get_push (z ∷ xs) y x zero h = h
get_push (z ∷ xs) y x (suc k) h = get_push xs y x k h

pub get_last : {X : Type 0} (xs : List X) (y : X) (rest : List X) → slice_get (xs ++ y ∷ rest) (length xs) ≡ Some y
get_last [] y rest = refl
get_last (x ∷ xs) y rest = get_last xs y rest

pub drop_push : {X : Type 0} (n : ℕ) (xs : List X) (y : X) → n ≤ length xs → drop n (xs ++ y ∷ []) ≡ drop n xs ++ y ∷ []
drop_push zero xs y h = refl
drop_push (suc n) [] y h = absurd (omega arith)
drop_push (suc n) (x ∷ xs) y h = drop_push n xs y (omega arith)
