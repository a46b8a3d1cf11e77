-- What a number names, and what a replay returns for it.
use Rattle.std.proofs.Common.{◌≡◌, ℕ, zero, suc, ◌+◌, ◌-◌, ◌≤◌, ◌<◌, List, [], ◌∷◌, ◌++◌, length, map}
use Rattle.std.proofs.Common.{drop, refl, sym, ap, ◌∙◌, subst, arith, Option, Some, None, Bool}
use Rattle.std.proofs.Common.{true, false, inl, inr, length-append}
use Rattle.std.specs.Prelude.{slice_get, nat_lt, if◌then◌else◌, ◌⊎◌, ◌||◌, ◌==◌}
use Rattle.std.specs.Option.{option_or, option_map}
use Rattle.planus.specs.declared.replaying.faults.Why.{Why}
use Rattle.std.specs.List.{list_any}
use Rattle.std.proofs.lemmas.Bool.Decides.{nat_tests}
use Rattle.std.proofs.lemmas.List.{map_push}
use Rattle.std.proofs.Math.Seq.{drop-length}
use Rattle.planus_write.specs.Parts.{Named}
use Rattle.planus.specs.Steps.{Step, text, bytes, numbers, refs, unions, struct, plains, table, finish, clear}
use Rattle.planus.specs.Kinds.{StepKind, a_value, kind_of, kind_named, naming_fault}
use Rattle.planus.specs.inner.Names.{name_of}
use Rattle.planus.specs.Replays.{is_clear, named_step, fault_of, first_fault, union_fault, check_by}
use Rattle.planus.specs.Replays.{broken_check}
use Rattle.planus.specs.Slots.{greatest_field, size_fault}
use Rattle.planus.specs.inner.Replaying.{names, name_fault, Wrote}
use Rattle.planus.specs.inner.Replaying.{AllWrote, HasTaken}
use Rattle.planus.specs.declared.replaying.faults.Why.TheVariants.{ZeroTag}
use Rattle.planus.specs.declared.replaying.state.ReplayState.{ReplayState}
use Rattle.planus.specs.declared.replaying.written.Written.{Written}
use Rattle.planus.proofs.FieldFaults.{same_fields}
use Rattle.planus.proofs.Lists.{get_push, get_last, drop_push}

named_from : (steps : List Step) (step c : Step) (any : Bool) → is_clear step ≡ false → list_any is_clear steps ≡ any → (got : Option Step)
    → (if any then None else got) ≡ Some c → (if list_any is_clear (steps ++ step ∷ []) then None else got) ≡ Some c
named_from steps step c true kind e got h = (cc)
named_from steps step c false kind e got h = rw (none_pushed steps e) h
  where
    none_pushed : (xs : List Step) → list_any is_clear xs ≡ false → list_any is_clear (xs ++ step ∷ []) ≡ false
    none_pushed [] e = rw kind refl
    none_pushed (text content ∷ xs) e = none_pushed xs e
    none_pushed (bytes content ∷ xs) e = none_pushed xs e
    none_pushed (numbers width items ∷ xs) e = none_pushed xs e
    none_pushed (refs named ∷ xs) e = none_pushed xs e
    none_pushed (unions items ∷ xs) e = none_pushed xs e
    none_pushed (struct alignment content ∷ xs) e = none_pushed xs e
    none_pushed (plains alignment size content ∷ xs) e = none_pushed xs e
    none_pushed (table fields ∷ xs) e = none_pushed xs e
    none_pushed (finish front root identifier ∷ xs) e = none_pushed xs e
    none_pushed (clear ∷ xs) e = (cc)

pub named_push : (steps : List Step) (step c : Step) (n : ℕ) → is_clear step ≡ false → named_step steps n ≡ Some c → named_step (steps ++ step ∷ []) n ≡ Some c
named_push [] step c zero kind h = (cc)
named_push [] step c (suc n) kind h = (cc)
named_push (x ∷ steps) step c zero kind h = named_from (x ∷ steps) step c (list_any is_clear (x ∷ steps)) kind refl (Some x) h
named_push (x ∷ steps) step c (suc n) kind h = named_push steps step c n kind h

pub named_last : (steps : List Step) (step : Step) → is_clear step ≡ false → named_step (steps ++ step ∷ []) (length steps) ≡ Some step
named_last [] step kind = rw kind refl
named_last (x ∷ steps) step kind = named_last steps step kind

pub named_inside : (steps : List Step) (c : Step) (n : ℕ) → named_step steps n ≡ Some c → n < length steps
named_inside [] c zero h = (cc)
named_inside [] c (suc n) h = (cc)
named_inside (x ∷ steps) c zero h = omega arith
named_inside (x ∷ steps) c (suc n) h = let rest = named_inside steps c n h in omega (arith, rest)

none_there : (any : Bool) (c : Step) → (if any then None else None) ≡ Some c → ⊥
none_there true c h = (cc)
none_there false c h = (cc)

pub none_named : (n : ℕ) (c : Step) → named_step [] n ≡ Some c → ⊥
none_named zero c h = (cc)
none_named (suc n) c h = (cc)

pub named_back : (steps : List Step) (step c : Step) (n : ℕ) → named_step (steps ++ step ∷ []) n ≡ Some c → (named_step steps n ≡ Some c) ⊎ ((n ≡ length steps) × (step ≡ c))
named_back [] step c zero h = by_kind (is_clear step) h
  where
    by_kind : (kind : Bool) → (if kind || false then None else Some step) ≡ Some c → (named_step [] zero ≡ Some c) ⊎ ((zero ≡ zero) × (step ≡ c))
    by_kind true h = (cc)
    by_kind false h = inr (refl, (let same : step ≡ c = cc in same))
named_back [] step c (suc n) h = absurd (none_there (list_any is_clear (drop n [])) c h)
named_back (x ∷ steps) step c zero h = inl (by_kind (is_clear x) (list_any is_clear (steps ++ step ∷ [])) refl h)
  where
    none_among : (xs : List Step) → list_any is_clear (xs ++ step ∷ []) ≡ false → list_any is_clear xs ≡ false
    none_among [] e = refl
    none_among (text content ∷ xs) e = none_among xs e
    none_among (bytes content ∷ xs) e = none_among xs e
    none_among (numbers width items ∷ xs) e = none_among xs e
    none_among (refs named ∷ xs) e = none_among xs e
    none_among (unions items ∷ xs) e = none_among xs e
    none_among (struct alignment content ∷ xs) e = none_among xs e
    none_among (plains alignment size content ∷ xs) e = none_among xs e
    none_among (table fields ∷ xs) e = none_among xs e
    none_among (finish front root identifier ∷ xs) e = none_among xs e
    none_among (clear ∷ xs) e = (cc)

    by_kind : (kind any : Bool) → list_any is_clear (steps ++ step ∷ []) ≡ any → (if kind || any then None else Some x) ≡ Some c → (if kind || list_any is_clear steps then None else Some x) ≡ Some c
    by_kind true any e h = (cc)
    by_kind false true e h = (cc)
    by_kind false false e h = rw (none_among steps e) h
named_back (x ∷ steps) step c (suc n) h = elim (named_back steps step c n h) as (λ _. (named_step steps n ≡ Some c) ⊎ ((suc n ≡ suc (length steps)) × (step ≡ c))) [
  | inl earlier ↦ inl earlier
  | inr last ↦ inr (ap suc last.0, last.1)
]

pub not_behind_clear : (steps : List Step) (c : Step) (n : ℕ) → named_step (steps ++ clear ∷ []) n ≡ Some c → ⊥
not_behind_clear [] c zero h = (cc)
not_behind_clear [] c (suc n) h = none_there (list_any is_clear (drop n [])) c h
not_behind_clear (x ∷ steps) c zero h = (let e : (if is_clear x || list_any is_clear (steps ++ clear ∷ []) then None else Some x) ≡ Some c = h in by_kind (is_clear x) (list_any is_clear (steps ++ clear ∷ [])) (last_clear steps) e)
  where
    last_clear : (xs : List Step) → list_any is_clear (xs ++ clear ∷ []) ≡ true
    last_clear [] = refl
    last_clear (text content ∷ xs) = last_clear xs
    last_clear (bytes content ∷ xs) = last_clear xs
    last_clear (numbers width items ∷ xs) = last_clear xs
    last_clear (refs named ∷ xs) = last_clear xs
    last_clear (unions items ∷ xs) = last_clear xs
    last_clear (struct alignment content ∷ xs) = last_clear xs
    last_clear (plains alignment size content ∷ xs) = last_clear xs
    last_clear (table fields ∷ xs) = last_clear xs
    last_clear (finish front root identifier ∷ xs) = last_clear xs
    last_clear (clear ∷ xs) = refl

    by_kind : (kind any : Bool) → any ≡ true → (if kind || any then None else Some x) ≡ Some c → ⊥
    by_kind true any e h = (cc)
    by_kind false true e h = (cc)
    by_kind false false e h = (cc)
not_behind_clear (x ∷ steps) c (suc n) h = not_behind_clear steps c n h

clear_from : (steps : List Step) (n k : ℕ) → slice_get steps (n + k) ≡ Some clear → list_any is_clear (drop n steps) ≡ true
clear_from [] zero k h = (cc)
clear_from [] (suc n) k h = (cc)
clear_from (x ∷ steps) (suc n) k h = clear_from steps n k (ap (slice_get (x ∷ steps)) (let e : suc (n + k) ≡ suc n + k = omega arith in e) ∙ h)
clear_from (x ∷ steps) zero zero h = (let same : x ≡ clear = cc in subst (λ y. list_any is_clear (y ∷ steps) ≡ true) (sym same) refl)
clear_from (x ∷ steps) zero (suc k) h = in_rest (is_clear x) (clear_from steps zero k (ap (slice_get (x ∷ steps)) (let e : suc (0 + k) ≡ 0 + suc k = omega arith in e) ∙ h))
  where
    in_rest : (first : Bool) → list_any is_clear steps ≡ true → (first || list_any is_clear steps) ≡ true
    in_rest true further = refl
    in_rest false further = further

none_clear : (steps : List Step) (ds : List (Option Named)) (k : ℕ) → AllWrote steps ds → list_any is_clear (drop k steps) ≡ false
none_clear [] ds zero h = refl
none_clear [] ds (suc k) h = refl
none_clear (x ∷ steps) [] k h = absurd h
none_clear (x ∷ steps) (d ∷ ds) (suc k) h = none_clear steps ds k h.1
none_clear (x ∷ steps) (d ∷ ds) zero h = rw h.0.0 (none_clear steps ds zero h.1)

same_kind : (steps : List Step) (ds : List (Option Named)) (i : ℕ) → AllWrote steps ds → option_map (option_map kind_named) (slice_get ds i) ≡ option_map kind_of (slice_get steps i)
same_kind [] [] i h = refl
same_kind (x ∷ steps) (d ∷ ds) zero h = ap (λ (k : Option StepKind). Some k) (sym h.0.1)
same_kind (x ∷ steps) (d ∷ ds) (suc i) h = same_kind steps ds i h.1
same_kind [] (d ∷ ds) i h = absurd h
same_kind (x ∷ steps) [] i h = absurd h

get_dropped : (n k : ℕ) (steps : List Step) → slice_get (drop n steps) k ≡ slice_get steps (n + k)
get_dropped zero k steps = ap (slice_get steps) (let e : k ≡ 0 + k = omega arith in e)
get_dropped (suc n) k [] = refl
get_dropped (suc n) k (x ∷ steps) = get_dropped n k steps ∙ ap (slice_get (x ∷ steps)) (let e : suc (n + k) ≡ suc n + k = omega arith in e)

drop_none : (n m : ℕ) → drop {A = Step} n [] ≡ drop {A = Step} m []
drop_none zero zero = refl
drop_none zero (suc m) = refl
drop_none (suc n) zero = refl
drop_none (suc n) (suc m) = refl

drop_dropped : (n k : ℕ) (steps : List Step) → drop k (drop n steps) ≡ drop (n + k) steps
drop_dropped zero k steps = ap (λ m. drop m steps) (let e : k ≡ 0 + k = omega arith in e)
drop_dropped (suc n) k [] = drop_none k (suc n + k)
drop_dropped (suc n) k (x ∷ steps) = drop_dropped n k steps ∙ ap (λ m. drop m (x ∷ steps)) (let e : suc (n + k) ≡ suc n + k = omega arith in e)

module _ (replay : ReplayState) (steps : List Step) (h : HasTaken replay steps) (kind : StepKind) (root : ℕ) where
  before : root + 1 ≤ replay.first → None ≡ named_step steps root
  before le = elim h.behind_clear as (λ _. None ≡ named_step steps root) [
    | inl none ↦ absurd (omega (arith, none, le))
    | inr there ↦
        let at : slice_get steps (root + (replay.first - 1 - root)) ≡ Some clear = ap (slice_get steps) (let e : root + (replay.first - 1 - root) ≡ replay.first - 1 = omega (arith, le) in e) ∙ there in
        sym (ap (λ any. if any then None else slice_get steps root) (clear_from steps root (replay.first - 1 - root) at))
  ]

  behind : replay.first ≤ root → naming_fault kind (option_map (option_map kind_named) (slice_get (names replay) (root - replay.first))) ≡ fault_of kind (named_step steps root)
  behind le =
      let k : ℕ = root - replay.first in
      let at : replay.first + k ≡ root = omega (arith, le) in
      let none : list_any is_clear (drop root steps) ≡ false
      = ap (λ m. list_any is_clear (drop m steps)) (sym at) ∙ ap (list_any is_clear) (sym (drop_dropped replay.first k steps)) ∙ none_clear (drop replay.first steps) (names replay) k h.wrote in
      ap (naming_fault kind) (same_kind (drop replay.first steps) (names replay) k h.wrote) ∙ ap (fault_of kind) (get_dropped replay.first k steps ∙ ap (slice_get steps) at)
      ∙ ap (fault_of kind) (sym (ap (λ any. if any then None else slice_get steps root) none))

  by_test : (earlier : Bool) → nat_lt root replay.first ≡ earlier
      → naming_fault kind (option_map (option_map kind_named) (if earlier then None else slice_get (names replay) (root - replay.first))) ≡ fault_of kind (named_step steps root)
  by_test true e = ap (fault_of kind) (before (let lt : root + 1 ≤ replay.first = grind (arith, nat_tests, e) in lt))
  by_test false e = behind (let le : replay.first ≤ root = grind (arith, nat_tests, e) in le)

  named_fault : name_fault replay kind root ≡ fault_of kind (named_step steps root)
  named_fault = by_test (nat_lt root replay.first) refl

same_first : {X : Type 0} (f g : X → Option Why) → ((x : X) → f x ≡ g x) → (xs : List X) → first_fault f xs ≡ first_fault g xs
same_first f g same [] = refl
same_first f g same (x ∷ xs) = ap (λ o. option_or o (first_fault f xs)) (same x) ∙ ap (option_or (g x)) (same_first f g same xs)

same_union : (f g : ℕ → Option Why) → ((n : ℕ) → f n ≡ g n) → (item : ℕ × ℕ) → union_fault f item ≡ union_fault g item
same_union f g same item = ap (λ o. if item.0 == 0 then Some ZeroTag else o) (same item.1)

same_check : (f g : StepKind → ℕ → Option Why) → ((kind : StepKind) (n : ℕ) → f kind n ≡ g kind n) → (step : Step) → check_by f step ≡ check_by g step
same_check f g same (text content) = refl
same_check f g same (bytes content) = refl
same_check f g same (numbers width items) = refl
same_check f g same (refs named) = same_first (f a_value) (g a_value) (same a_value) named
same_check f g same (struct alignment content) = refl
same_check f g same (plains alignment size content) = refl
same_check f g same (unions items) = same_first (union_fault (f a_value)) (union_fault (g a_value)) (same_union (f a_value) (g a_value) (same a_value)) items
same_check f g same (table fields) = ap (λ o. option_or o (size_fault fields)) (same_fields f g same [] greatest_field fields)
same_check f g same (finish front root identifier) = same a_value root
same_check f g same clear = refl

pub checked : (replay : ReplayState) (steps : List Step) → HasTaken replay steps → (step : Step) → check_by (name_fault replay) step ≡ broken_check steps step
checked replay steps h step = same_check (name_fault replay) (λ kind n. fault_of kind (named_step steps n)) (λ kind n. named_fault replay steps h kind n) step

wrote_push : (steps : List Step) (ds : List (Option Named)) (step : Step) (d : Option Named) → Wrote step d → AllWrote steps ds → AllWrote (steps ++ step ∷ []) (ds ++ d ∷ [])
wrote_push [] [] step d new h = (new, tt)
wrote_push (x ∷ steps) (e ∷ ds) step d new h = (h.0, wrote_push steps ds step d new h.1)
wrote_push [] (e ∷ ds) step d new h = absurd h
wrote_push (x ∷ steps) [] step d new h = absurd h

pub one_more : (old new : ReplayState) (offset : Option Written) → new.first ≡ old.first → new.offsets.items ≡ old.offsets.items ++ offset ∷ []
    → new.first + length new.offsets.items ≡ old.first + length old.offsets.items + 1
one_more old new offset first pushed = let longer : length new.offsets.items ≡ length old.offsets.items + 1 = ap length pushed ∙ length-append old.offsets.items (offset ∷ []) in omega (arith, first, longer)

pub took_one : (old new : ReplayState) (step : Step) (offset : Option Written) → Wrote step (name_of offset) → new.first ≡ old.first → new.offsets.items ≡ old.offsets.items ++ offset ∷ []
    → (steps : List Step) → HasTaken old steps → HasTaken new (steps ++ step ∷ [])
took_one old new step offset wrote first pushed steps h =
    let counted : old.first + length old.offsets.items ≡ length steps = h.counted in
    let longer : length new.offsets.items ≡ length old.offsets.items + 1 = ap length pushed ∙ length-append old.offsets.items (offset ∷ []) in
    let all : length (steps ++ step ∷ []) ≡ length steps + 1 = length-append steps (step ∷ []) in
    let known : names new ≡ names old ++ name_of offset ∷ [] = ap (map name_of) pushed ∙ map_push name_of old.offsets.items offset in
    let rest : drop new.first (steps ++ step ∷ []) ≡ drop old.first steps ++ step ∷ [] = ap (λ n. drop n (steps ++ step ∷ [])) first ∙ drop_push old.first steps step (omega (arith, counted)) in
    record {
      counted = omega (arith, counted, longer, all, first);
      behind_clear = elim h.behind_clear as (λ _. (new.first ≡ 0) ⊎ (slice_get (steps ++ step ∷ []) (new.first - 1) ≡ Some clear)) [
        | inl none ↦ inl (first ∙ none)
        | inr there ↦ inr (ap (λ n. slice_get (steps ++ step ∷ []) (n - 1)) first ∙ get_push steps step clear (old.first - 1) there)
      ];
      wrote = subst (λ xs. AllWrote xs (names new)) (sym rest) (subst (λ ds. AllWrote (drop old.first steps ++ step ∷ []) ds) (sym known)
          (wrote_push (drop old.first steps) (names old) step (name_of offset) wrote h.wrote));
    }

pub took_clear : (old new : ReplayState) → new.first ≡ old.first + length old.offsets.items + 1 → new.offsets.items ≡ [] → (steps : List Step) → HasTaken old steps → HasTaken new (steps ++ clear ∷ [])
took_clear old new first none steps h =
    let counted : old.first + length old.offsets.items ≡ length steps = h.counted in
    let empty : length new.offsets.items ≡ 0 = ap length none in
    let all : length (steps ++ clear ∷ []) ≡ length steps + 1 = length-append steps (clear ∷ []) in
    let whole : new.first ≡ length (steps ++ clear ∷ []) = omega (arith, counted, all, first) in
    let last : new.first - 1 ≡ length steps = omega (arith, counted, first) in
    record {
      counted = omega (arith, whole, empty);
      behind_clear = inr (ap (slice_get (steps ++ clear ∷ [])) last ∙ get_last steps clear []);
      wrote = subst (λ xs. AllWrote xs (names new)) (sym (ap (λ n. drop n (steps ++ clear ∷ [])) whole ∙ drop-length (steps ++ clear ∷ []))) (subst (λ xs. AllWrote [] (map name_of xs)) (sym none) tt);
    }
