-- The least padding gives the least places.
--
-- Two placings of the same parts are compared from the end. A pair of places of one part is held
-- until a later alignment is greater; the least placing keeps it no further from the newest place.
use Rattle.std.proofs.Common.{◌≡◌, ℕ, ◌+◌, ◌-◌, ◌*◌, ◌<◌, ◌≤◌, max, ◌⊎◌, inl, inr, arith, sym, subst, refl, List, [], ◌∷◌}
use Rattle.std.specs.Int.{◌∣◌}
use Rattle.std.specs.List.{AllByRecursion}
use Rattle.std.proofs.lemmas.Bool.{cases_lt}
use Rattle.std.proofs.lemmas.Nat.{pow_pos}
use Rattle.std.proofs.lemmas.Nat.Gcd.{dvd_refl, dvd_trans, dvd-zero}
use Rattle.std.proofs.Math.Nat.{one-dvd, dvd-sub, dvd-mul_left, dvd-mul_right, mul-pos}
use Rattle.planus_back.specs.Promises.{Promise, IsPowerOfTwo, Keeps, Keep, CanBeKept, greatest_alignment}
use Rattle.planus_back.specs.Padding.{promise_of, IsLeastPadding}
use Rattle.planus_back.specs.Parts.{Part}
use Rattle.planus_back.specs.Placings.{LieInOrder, promises_at, PlacedInTurn, NoneIsGreater}
use Rattle.planus_back.proofs.Multiples.{times_le}
use Rattle.planus_back.proofs.Lists.{AllPowers, AllReached, reached_later, kept_beyond, kept_before, greatest_is_power, power_divides}

pub record Good (u w : ℕ) (promises : List Promise) (f x y a : ℕ) : Type 0 where
  pub power : IsPowerOfTwo a
  pub below_u : x ≤ u
  pub below_w : y ≤ w
  pub ahead : x ≤ y
  pub even : u + y ≤ w + x
  pub kept : (l : ℕ) → Keep promises l → u ≤ l → a ∣ (l - x)
  pub finished : a ∣ (f - y)

pub power_positive : (a : ℕ) → IsPowerOfTwo a → 0 < a
power_positive a (k, e) = omega (arith, e, pow_pos k)

module _ (u w : ℕ) (promises : List Promise) (f size a padding x y p q b : ℕ) where
  could_stand : (m : ℕ) → Good u w promises f p q b → AllPowers promises → AllReached u promises → IsPowerOfTwo a
      → IsLeastPadding u promises size a padding → w + size ≤ y → Keeps f (promise_of y a)
      → m ∣ b → m ∣ a → (m ≡ a) ⊎ (m ≡ greatest_alignment 1 promises)
      → CanBeKept (promise_of (y - (q - p)) a ∷ promises)
  could_stand m good powers reached power least order keeps db da which =
      let g : ℕ = greatest_alignment 1 promises in
      let gpower : IsPowerOfTwo g = greatest_is_power promises powers in
      let z : ℕ = y - (q - p) in
      let l0 : ℕ = least.holds.0 in
      let k0 : Keep promises l0 = least.holds.1.1 in
      let r0 : u + padding + size ≤ l0 = least.holds.1.0.reaches in
      let unit : ℕ = g * a in
      let pos : 0 < unit = mul-pos (power_positive g gpower) (power_positive a power) in
      let n : ℕ = z * unit in
      let enough : z * 1 ≤ z * unit = omega (arith, times_le 1 unit z pos) in
      let dn : g ∣ n = dvd_trans g (dvd-mul_right g a) (dvd-mul_left unit z) in
      let l : ℕ = l0 + n in
      let k : Keep promises l = kept_beyond promises g n gpower (omega arith) powers dn l0 k0 in
      let far : z ≤ l = omega (arith, enough) in
      let ahead : p ≤ q = good.ahead in
      let below : q ≤ w = good.below_w in
      let even : u + q ≤ w + p = good.even in
      let reach : y ≤ f = keeps.reaches in
      let d1 : m ∣ (l - p) = dvd_trans m db (good.kept l k (omega (arith, r0))) in
      let d2 : m ∣ ((f - q) - (f - y)) = dvd-sub m (dvd_trans m db good.finished) (dvd_trans m da keeps.aligns) in
      let e2 : (f - q) - (f - y) ≡ z - p = omega (arith, ahead, below, order, reach) in
      let d3 : m ∣ (z - p) = subst (λ v. m ∣ v) e2 d2 in
      let e4 : (l - p) - (z - p) ≡ l - z = omega (arith, ahead, below, order, far) in
      let d4 : m ∣ (l - z) = subst (λ v. m ∣ v) e4 (dvd-sub m d1 d3) in
      elim which as (λ _. CanBeKept (promise_of z a ∷ promises)) [
        | inl same ↦ (l, (record { reaches = far; aligns = subst (λ v. v ∣ (l - z)) same d4 }, k))
        | inr same ↦
            let d5 : g ∣ (l - z) = subst (λ v. v ∣ (l - z)) same d4 in
            let e5 : l ≡ z + (l - z) = omega (arith, far) in
            let k5 : Keep promises (z + (l - z)) = subst (λ v. Keep promises v) e5 k in
            let le : u ≤ z = omega (arith, ahead, even, order) in
            let here : Keep promises z = kept_before promises g (l - z) gpower (omega arith) powers d5 z (reached_later u z promises le reached) k5 in
            let zero : 0 ≡ z - z = omega arith in
            (z, (record { reaches = omega arith; aligns = subst (λ v. a ∣ v) zero (dvd-zero a) }, here))
      ]

  stays_even : (m : ℕ) → Good u w promises f p q b → AllPowers promises → AllReached u promises → IsPowerOfTwo a
      → IsLeastPadding u promises size a padding → x ≡ u + padding + size → w + size ≤ y → Keeps f (promise_of y a)
      → m ∣ b → m ∣ a → (m ≡ a) ⊎ (m ≡ greatest_alignment 1 promises)
      → x + q ≤ y + p
  stays_even m good powers reached power least placed order keeps db da which =
      let z : ℕ = y - (q - p) in
      let ahead : p ≤ q = good.ahead in
      let below : q ≤ w = good.below_w in
      let even : u + q ≤ w + p = good.even in
      let r : ℕ = z - (u + size) in
      let e : z ≡ u + r + size = omega (arith, ahead, even, order) in
      let can = could_stand m good powers reached power least order keeps db da which in
      let t : padding ≤ r = least.least r (subst (λ v. CanBeKept (promise_of v a ∷ promises)) e can) in
      omega (arith, t, e, placed, ahead, even, order)

abbrev HeldAfter : (ℕ → ℕ → ℕ → Type 0) → ℕ → ℕ → ℕ → ℕ → ℕ → ℕ → Type 0
HeldAfter Held x y a p q b = ((p ≡ x) × (q ≡ y) × (b ≡ a)) ⊎ (Held p q b × (a ≤ b))

record Next (u w : ℕ) (promises : List Promise) (f x y a : ℕ) (Held : ℕ → ℕ → ℕ → Type 0) : Type 0 where
  le : x ≤ y
  good : (p q b : ℕ) → HeldAfter Held x y a p q b → Good x y (promise_of x a ∷ promises) f p q b
  held : (p : ℕ) × (q : ℕ) × HeldAfter Held x y a p q (max a (greatest_alignment 1 promises))

module _ (u w : ℕ) (promises : List Promise) (f size a padding x y : ℕ) (Held : ℕ → ℕ → ℕ → Type 0)
    (good : (p q b : ℕ) → Held p q b → Good u w promises f p q b)
    (powers : AllPowers promises) (reached : AllReached u promises) (power : IsPowerOfTwo a)
    (least : IsLeastPadding u promises size a padding) (placed : x ≡ u + padding + size) (order : w + size ≤ y) (keeps : Keeps f (promise_of y a)) where
  no_greater : (p q : ℕ) → Held p q (greatest_alignment 1 promises) → x ≤ y
  no_greater p q held =
      let g : ℕ = greatest_alignment 1 promises in
      let old = good p q g held in
      let gpower : IsPowerOfTwo g = greatest_is_power promises powers in
      let ahead : p ≤ q = old.ahead in
      elim (cases_lt g a) as (λ _. x ≤ y) [
        | inl lt ↦
            let t : x + q ≤ y + p = stays_even u w promises f size a padding x y p q g g old powers reached power least placed order keeps
            (dvd_refl g) (power_divides g a gpower power (omega (arith, lt))) (inr refl) in
            omega (arith, t, ahead)
        | inr le ↦
            let t : x + q ≤ y + p = stays_even u w promises f size a padding x y p q g a old powers reached power least placed order keeps
            (power_divides a g power gpower le) (dvd_refl a) (inl refl) in
            omega (arith, t, ahead)
      ]

  own_good : x ≤ y → (p q b : ℕ) → p ≡ x → q ≡ y → b ≡ a → Good x y (promise_of x a ∷ promises) f p q b
  own_good le p q b e1 e2 e3 =
      let own : Good x y (promise_of x a ∷ promises) f x y a = record {
        power = power;
        below_u = omega arith;
        below_w = omega arith;
        ahead = le;
        even = omega arith;
        kept = λ l k from. k.0.aligns;
        finished = keeps.aligns;
      } in
      subst (λ v. Good x y (promise_of x a ∷ promises) f p q v) (sym e3)
      (subst (λ v. Good x y (promise_of x a ∷ promises) f p v a) (sym e2)
      (subst (λ v. Good x y (promise_of x a ∷ promises) f v y a) (sym e1) own))

  old_good : (p q b : ℕ) → Held p q b → a ≤ b → Good x y (promise_of x a ∷ promises) f p q b
  old_good p q b held le =
      let old = good p q b held in
      let below_u : p ≤ u = old.below_u in
      let below_w : q ≤ w = old.below_w in
      record {
        power = old.power;
        below_u = omega (arith, below_u, placed);
        below_w = omega (arith, below_w, order);
        ahead = old.ahead;
        even = stays_even u w promises f size a padding x y p q b a old powers reached power least placed order keeps
            (power_divides a b power old.power le) (dvd_refl a) (inl refl);
        kept = λ l k from. old.kept l k.1 (omega (arith, from, placed));
        finished = old.finished;
      }

  next : (p q : ℕ) → Held p q (greatest_alignment 1 promises) → Next u w promises f x y a Held
  next p q held =
      let g : ℕ = greatest_alignment 1 promises in
      let le : x ≤ y = no_greater p q held in
      record {
        le = le;
        good = λ r s b h. elim h as (λ _. Good x y (promise_of x a ∷ promises) f r s b) [
          | inl own ↦ own_good le r s b own.0 own.1 own.2
          | inr old ↦ old_good r s b old.0 old.1
        ];
        held = elim (cases_lt g a) as (λ _. (r : ℕ) × (s : ℕ) × HeldAfter Held x y a r s (max a g)) [
          | inl lt ↦ (let e : max a g ≡ a = omega (arith, lt) in (x, y, inl (refl, refl, e)))
          | inr ge ↦ (let e : g ≡ max a g = omega (arith, ge) in (p, q, inr (subst (λ v. Held p q v) e held, omega (arith, e, ge))))
        ];
      }

none_greater : (parts : List Part) (places others : List ℕ) (u w : ℕ) (promises : List Promise) (f : ℕ) (Held : ℕ → ℕ → ℕ → Type 0)
    → ((p q b : ℕ) → Held p q b → Good u w promises f p q b)
    → (p q : ℕ) → Held p q (greatest_alignment 1 promises)
    → AllPowers promises → AllReached u promises
    → AllByRecursion (λ (part : Part). IsPowerOfTwo part.alignment) parts
    → PlacedInTurn u promises parts places → LieInOrder w parts others → Keep (promises_at parts others) f
    → NoneIsGreater places others
none_greater [] [] [] u w promises f Held good p q held powers reached all placed order kept = tt
none_greater [] [] (y ∷ others) u w promises f Held good p q held powers reached all placed order kept = absurd order
none_greater [] (x ∷ places) others u w promises f Held good p q held powers reached all placed order kept = absurd placed
none_greater (part ∷ parts) [] others u w promises f Held good p q held powers reached all placed order kept = absurd placed
none_greater (part ∷ parts) (x ∷ places) [] u w promises f Held good p q held powers reached all placed order kept = absurd order
none_greater (part ∷ parts) (x ∷ places) (y ∷ others) u w promises f Held good p q held powers reached all placed order kept =
    let a : ℕ = part.alignment in
    let padding : ℕ = placed.0.0 in
    let at : x ≡ u + padding + part.size = placed.0.1 in
    let step : Next u w promises f x y a Held =
    next u w promises f part.size a padding x y Held good powers reached all.0 placed.0.2 at order.0 kept.0 p q held in (
      step.le,
      none_greater parts places others x y (promise_of x a ∷ promises) f (HeldAfter Held x y a) step.good step.held.0 step.held.1 step.held.2
          (all.0, powers) (omega arith, reached_later u x promises (omega (arith, at)) reached) all.1 placed.1 order.1 kept.1,
    )

pub least_places : (parts : List Part) (places others : List ℕ) (f : ℕ) → AllByRecursion (λ (part : Part). IsPowerOfTwo part.alignment) parts
    → PlacedInTurn 0 [] parts places → LieInOrder 0 parts others → Keep (promises_at parts others) f → NoneIsGreater places others
least_places parts places others f all placed order kept =
    none_greater parts places others 0 0 [] f (λ p q b. (p ≡ 0) × (q ≡ 0) × (b ≡ 1))
    (λ p q b h. (let one : 1 ≡ b = sym h.2 in record {
      power = (0, h.2);
      below_u = omega (arith, h.0);
      below_w = omega (arith, h.1);
      ahead = omega (arith, h.0);
      even = omega (arith, h.0, h.1);
      kept = λ l k from. subst (λ v. v ∣ (l - p)) one (one-dvd (l - p));
      finished = subst (λ v. v ∣ (f - q)) one (one-dvd (f - q));
    }))
    0 0 (refl, refl, refl) tt tt all placed order kept
