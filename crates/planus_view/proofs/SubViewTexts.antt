-- The strings of sub-views.
use Rattle.std.proofs.Common.{◌≡◌, ℕ, ◌+◌, ◌<◌, ◌≤◌, ◌↔◌, List, [], ◌∷◌, length, take, drop, sym}
use Rattle.std.proofs.Common.{ap, ◌∙◌, subst, arith, get_or, inl, inr, ⊎_elim, length-drop}
use Rattle.std.proofs.Common.{Result, Ok, Err}
use Rattle.std.proofs.lemmas.List.{drop-drop, get_or-drop}
use Rattle.std.specs.Prelude.{⊤}
use Rattle.std.specs.Int.{w32, from_le_bytes}
use Rattle.planus_read.specs.declared.errors.ErrorKind.{ErrorKind}
use Rattle.planus_read.specs.Clauses.{Clause, AllHold, FirstBroken, Answer}
use Rattle.planus_read.specs.Reading.{number, target, count_at, items_at, ZeroByte, TextThere}
use Rattle.planus_read.specs.Reading.{text_clauses, text_reading}
use Rattle.planus_read.specs.Utf8.{utf8_clause}
use Rattle.planus_read.proofs.Reading.{text_there, text_holds}

abbrev SameClauses : List Clause → List Clause → Type 0
SameClauses [] [] = ⊤
SameClauses (x ∷ xs) (y ∷ ys) =
    (x.holds ↔ y.holds) × ((e : ErrorKind) → x.errors e ↔ y.errors e)
    × (x.holds → SameClauses xs ys)
SameClauses _ _ = ⊥

all_hold : (xs ys : List Clause) → SameClauses xs ys → AllHold xs ↔ AllHold ys
all_hold [] [] same = (λ h. h, λ h. h)
all_hold (x ∷ xs) (y ∷ ys) same = (
  λ h. (same.0.0 h.0, (all_hold xs ys (same.2 h.0)).0 h.1),
  λ h. let first : x.holds = same.0.1 h.0 in (first, (all_hold xs ys (same.2 first)).1 h.1),
)
all_hold [] (y ∷ ys) same = absurd same
all_hold (x ∷ xs) [] same = absurd same

first_broken :
    (xs ys : List Clause) → SameClauses xs ys → (e : ErrorKind)
    → FirstBroken xs e ↔ FirstBroken ys e
first_broken [] [] same e = (λ h. h, λ h. h)
first_broken (x ∷ xs) (y ∷ ys) same e = (
  ⊎_elim (λ (h : (x.holds → ⊥) × x.errors e). inl (λ there. h.0 (same.0.1 there), (same.1 e).0 h.1))
      (λ (h : x.holds × FirstBroken xs e).
      inr (same.0.0 h.0, (first_broken xs ys (same.2 h.0) e).0 h.1)),
  ⊎_elim (λ (h : (y.holds → ⊥) × y.errors e). inl (λ there. h.0 (same.0.0 there), (same.1 e).1 h.1))
      (λ (h : y.holds × FirstBroken ys e). let first : x.holds = same.0.1 h.0 in
      inr (first, (first_broken xs ys (same.2 first) e).1 h.1)),
)
first_broken [] (y ∷ ys) same e = absurd same
first_broken (x ∷ xs) [] same e = absurd same

module _ (S : List ℕ) (p f : ℕ) where
  same_number : (k : ℕ) → number (drop p S) k w32 ≡ number S (p + k) w32
  same_number k = ap (λ bytes. from_le_bytes w32 (take 4 bytes)) (drop-drop k p S)

  same_target : target S (p + f) ≡ p + target (drop p S) f
  same_target = let n = same_number f in omega (arith, n)

  items_begin : items_at S (p + f) ≡ p + items_at (drop p S) f
  items_begin = let t = same_target in omega (arith, t)

  same_count : count_at (drop p S) f ≡ count_at S (p + f)
  same_count =
      same_number (target (drop p S) f) ∙ ap (λ k. number S k w32) (sym same_target)

  same_content :
      take (count_at (drop p S) f) (drop (items_at (drop p S) f) (drop p S))
      ≡ take (count_at S (p + f)) (drop (items_at S (p + f)) S)
  same_content =
      ap (λ n. take n (drop (items_at (drop p S) f) (drop p S))) same_count
      ∙ ap (take (count_at S (p + f)))
      (drop-drop (items_at (drop p S) f) p S ∙ ap (λ k. drop k S) (sym items_begin))

  same_zero :
      (k j m n : ℕ) → p ≤ length S → j ≡ p + k → m ≡ n → ZeroByte (drop p S) k m ↔ ZeroByte S j n
  same_zero k j m n inside begin count = (
    λ h. (
      let within : k + m < length (drop p S) = h.0 in omega (arith, length-drop p S, begin, count),
      sym value ∙ h.1,
    ),
    λ h. (
      let within : j + n < length S = h.0 in omega (arith, length-drop p S, begin, count),
      value ∙ h.1,
    ),
  )
    where
      value : get_or (drop p S) (k + m) 0 ≡ get_or S (j + n) 0
      value = get_or-drop p S (k + m) 0
          ∙ ap (λ i. get_or S i 0) (let e : p + (k + m) ≡ j + n = omega (arith, begin, count) in e)

  same_clauses : SameClauses (text_clauses (drop p S) f) (text_clauses S (p + f))
  same_clauses = (
    (λ h. omega (arith, length-drop p S), λ h. omega (arith, length-drop p S)),
    λ e. (λ h. h, λ h. h),
    λ first.
        let inside : p ≤ length S = omega (arith, length-drop p S, first) in
        let t : target S (p + f) ≡ p + target (drop p S) f = same_target in (
          (
            λ h. omega (arith, length-drop p S, t, inside),
            λ h. omega (arith, length-drop p S, t, inside),
          ),
          λ e. (λ h. h, λ h. h),
          λ second. (
            (
              λ h. omega (arith, length-drop p S, t, inside),
              λ h. omega (arith, length-drop p S, t, inside),
            ),
            λ e. (λ h. h, λ h. h),
            λ third. (
              same_zero (items_at (drop p S) f) (items_at S (p + f)) (count_at (drop p S) f)
                  (count_at S (p + f)) inside items_begin same_count,
              λ e. (λ h. h, λ h. h),
              λ fourth. (
                (
                  subst (λ b. (utf8_clause b).holds) same_content,
                  subst (λ b. (utf8_clause b).holds) (sym same_content),
                ),
                λ e. (
                  subst (λ b. (utf8_clause b).errors e) same_content,
                  subst (λ b. (utf8_clause b).errors e) (sym same_content),
                ),
                λ fifth. tt,
              ),
            ),
          ),
        ),
  )

  same_answer :
      (r : Result (List ℕ) ErrorKind)
      → Answer (text_reading (drop p S) f) r ↔ Answer (text_reading S (p + f)) r
  same_answer (Ok x) = (
    λ h.
        let found = text_holds (drop p S) f x h in
        subst (TextThere S (p + f)) (sym (found.1 ∙ same_content))
        (text_there S (p + f)
        ((all_hold (text_clauses (drop p S) f) (text_clauses S (p + f)) same_clauses).0 found.0)),
    λ h.
        let found = text_holds S (p + f) x h in
        subst (TextThere (drop p S) f) (same_content ∙ sym found.1)
        (text_there (drop p S) f
        ((all_hold (text_clauses (drop p S) f) (text_clauses S (p + f)) same_clauses).1 found.0)),
  )
  same_answer (Err e) =
      first_broken (text_clauses (drop p S) f) (text_clauses S (p + f)) same_clauses e

pub same_texts :
    (S : List ℕ) (p f g : ℕ) → p + f ≡ g → (r : Result (List ℕ) ErrorKind)
    → Answer (text_reading (drop p S) f) r ↔ Answer (text_reading S g) r
same_texts S p f g e r =
    subst (λ k. Answer (text_reading (drop p S) f) r ↔ Answer (text_reading S k) r) e
    (same_answer S p f r)
