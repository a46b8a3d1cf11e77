-- The finishes of a run, by the numbers of their steps.
use Rattle.std.proofs.Common.{◌≡◌, ℕ, ◌+◌, List, [], ◌∷◌, ◌++◌, length, refl, ap, ◌∙◌, arith}
use Rattle.std.proofs.Common.{Option, Some, Bool, true, false}
use Rattle.std.specs.Prelude.{if◌then◌else◌}
use Rattle.std.specs.List.{AllByRecursion}
use Rattle.planus_read.specs.Values.{Value}
use Rattle.planus_write.specs.Shared.{CacheSettings}
use Rattle.planus.specs.Steps.{Step, Front, text, bytes, numbers as numbers_step, refs, unions, struct, plains, table, finish, clear}
use Rattle.planus.specs.Runs.{Finish, Listed, value_of}
use Rattle.planus.specs.FinishHolds.{FinishHolds, is_finish, finishes_from, IsFinishOf, AreFinishesOf}

pub is_no_finish : (listed : List Listed) (step : Step) (v : Value) → value_of listed step ≡ Some v → is_finish step ≡ false
is_no_finish listed (text content) v e = refl
is_no_finish listed (bytes content) v e = refl
is_no_finish listed (numbers_step width items) v e = refl
is_no_finish listed (refs steps) v e = refl
is_no_finish listed (unions items) v e = refl
is_no_finish listed (struct alignment content) v e = refl
is_no_finish listed (plains alignment size content) v e = refl
is_no_finish listed (table fields) v e = refl
is_no_finish listed (finish front root identifier) v e = (cc)
is_no_finish listed clear v e = refl

pub as_many : (n : ℕ) (done : List Step) (step : Step) → is_finish step ≡ false → finishes_from n (done ++ step ∷ []) ≡ finishes_from n done
as_many n [] step e = ap (λ (last : Bool). if last then n ∷ [] else []) e
as_many n (first ∷ done) step e = ap (λ rest. if is_finish first then n ∷ rest else rest) (as_many (n + 1) done step e)

pub one_more : (n : ℕ) (done : List Step) (front : Front) (root : ℕ) (identifier : Option (List ℕ))
    → finishes_from n (done ++ finish front root identifier ∷ []) ≡ finishes_from n done ++ (n + length done) ∷ []
one_more n [] front root identifier = ap (λ m. m ∷ []) (let e : n ≡ n + 0 = omega arith in e)
one_more n (first ∷ done) front root identifier =
    ap (λ rest. if is_finish first then n ∷ rest else rest) (one_more (n + 1) done front root identifier) ∙ by_test (is_finish first)
  where
    count : n + 1 + length done ≡ n + length (first ∷ done)
    count = omega arith

    by_test : (is : Bool) → (if is then n ∷ (finishes_from (n + 1) done ++ (n + 1 + length done) ∷ []) else (finishes_from (n + 1) done ++ (n + 1 + length done) ∷ []))
        ≡ (if is then n ∷ finishes_from (n + 1) done else finishes_from (n + 1) done) ++ (n + length (first ∷ done)) ∷ []
    by_test true = ap (λ m. n ∷ (finishes_from (n + 1) done ++ m ∷ [])) count
    by_test false = ap (λ m. finishes_from (n + 1) done ++ m ∷ []) count

module _ (settings : CacheSettings) (steps : List Step) where
  pub are_push : (numbers : List ℕ) (finished : List Finish) (number : ℕ) (given : Finish) → AreFinishesOf settings steps numbers finished → IsFinishOf settings steps number given
      → AreFinishesOf settings steps (numbers ++ number ∷ []) (finished ++ given ∷ [])
  are_push [] [] number given h is = (is, tt)
  are_push (first ∷ numbers) (one ∷ finished) number given h is = (h.0, are_push numbers finished number given h.1 is)
  are_push [] (one ∷ finished) number given h is = absurd h
  are_push (first ∷ numbers) [] number given h is = absurd h

  pub each_holds : (numbers : List ℕ) (finished : List Finish) → AreFinishesOf settings steps numbers finished → AllByRecursion (FinishHolds settings steps) finished
  each_holds [] [] h = tt
  each_holds (first ∷ numbers) (one ∷ finished) h = (h.0.holds, each_holds numbers finished h.1)
  each_holds [] (one ∷ finished) h = absurd h
  each_holds (first ∷ numbers) [] h = absurd h
